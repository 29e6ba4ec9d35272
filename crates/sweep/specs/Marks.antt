-- Marks: an array of bytes, one for each place, 0 where the place is not marked.
-- Assumes nothing.
use Rattle.std.specs.Prelude.{Bool, false, ◌||◌, not, List, [], ◌∷◌, ◌⊎◌, ◌≢◌, ◌≡◌, refl, ℕ, zero, suc, ◌≤◌, ◌<◌, eqb, length, get_or, set, replicate}
use Rattle.std.proofs.Math.Bool.{or-true, or-false}
use Rattle.std.proofs.Common.{inl, inr, sym, ap, not-suc-le-zero, le_of_suc-le-suc, arith, eq-eqb, ne_eqb, get_or-set_same, get_or-set_other}
use Rattle.std.proofs.Math.ListN.{get_or-eq_default}
use Rattle.store.specs.PlaceLaws.{same?}
use Rattle.store.specs.ListLaws.{not-both}

-- A place outside the array is not marked.
unfoldable pub marked : List ℕ → ℕ → Bool
marked marks n = not (eqb (get_or marks n 0) 0)

pub outside_not_marked : (marks : List ℕ) {n : ℕ} → length marks ≤ n → false ≡ marked marks n
unfolding marked
outside_not_marked marks l = rw (get_or-eq_default marks 0 l)

pub none-marked : (size n : ℕ) → marked (replicate size 0) n ≡ false
unfolding marked
none-marked zero n = refl
none-marked (suc size) zero = refl
none-marked (suc size) (suc n) = none-marked size n

-- With one mark more.
pub mark_says : (marks : List ℕ) (p n : ℕ) → (p ≡ n → n < length marks)
    → marked (set marks p 1) n ≡ (marked marks n || eqb p n)
unfolding marked
mark_says marks p n inside = go (same? p n)
  where
    go : (p ≡ n) ⊎ (p ≢ n) → marked (set marks p 1) n ≡ (marked marks n || eqb p n)
    go (inl e) =
        rw (e, get_or-set_same marks n 1 0 (inside e), eq-eqb n n refl) (sym (or-true (marked marks n)))
    go (inr e) =
        rw (get_or-set_other marks p n 1 0 (λ q. e (sym q)), ne_eqb p n e) (sym (or-false (marked marks n)))

-- How many places are not marked: so many steps at most are left to a walk.
abbrev pub unmarked : List ℕ → ℕ
unmarked [] = 0
unmarked (zero ∷ xs) = suc (unmarked xs)
unmarked (suc x ∷ xs) = unmarked xs

unmarked-set : (xs : List ℕ) (p : ℕ) → p < length xs → get_or xs p 0 ≡ 0
    → unmarked xs ≡ suc (unmarked (set xs p 1))
unmarked-set [] p l e = absurd (not-suc-le-zero l)
unmarked-set (zero ∷ xs) zero l e = refl
unmarked-set (suc x ∷ xs) zero l e = absurd (omega arith)
unmarked-set (zero ∷ xs) (suc p) l e = ap suc (unmarked-set xs p (le_of_suc-le-suc l) e)
unmarked-set (suc x ∷ xs) (suc p) l e = unmarked-set xs p (le_of_suc-le-suc l) e

pub unmarked-less : (marks : List ℕ) (p : ℕ) → p < length marks → marked marks p ≡ false
    → unmarked (set marks p 1) < unmarked marks
unfolding marked
unmarked-less marks p l e = go (same? (get_or marks p 0) 0)
  where
    go : (get_or marks p 0 ≡ 0) ⊎ (get_or marks p 0 ≢ 0) → unmarked (set marks p 1) < unmarked marks
    go (inl z) = omega (arith, unmarked-set marks p l z)
    go (inr some) = not-both (rw (ne_eqb (get_or marks p 0) 0 some)) e
