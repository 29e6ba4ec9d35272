-- Distinct codes: as a fact about places, and as the test that goes down the list says it.
-- Assumes nothing.
use Rattle.std.specs.Prelude.{◌≡◌, refl, true, false, List, [], ◌∷◌, ◌≢◌, ℕ, zero, suc, ◌<◌, eqb, length, get_or}
use Rattle.std.proofs.Math.Bool.{and-false, or-true}
use Rattle.std.proofs.Common.{arith, eq-eqb, ne_eqb}
use Rattle.store.specs.Lists.{any}
use Rattle.rules.specs.Sound.{distinct}
use Rattle.distinct.specs.Places.{Apart}

abbrev pub code : List ℕ → ℕ → ℕ
code codes place = get_or codes place 0

-- Codes at different places differ.
abbrev pub Distinct : List ℕ → Type 0
Distinct codes = Apart (code codes) (length codes)

none_equal : (x : ℕ) (xs : List ℕ) → ((k : ℕ) → k < length xs → x ≢ code xs k) → any (eqb x) xs ≡ false
none_equal x [] h = refl
none_equal x (y ∷ ys) h = rw (ne_eqb x y (h 0 (omega arith))) (none_equal x ys (λ k l. h (suc k) (omega arith)))

pub distinct-passes : (codes : List ℕ) → Distinct codes → distinct codes ≡ true
distinct-passes [] d = refl
distinct-passes (x ∷ xs) d =
    rw (none_equal x xs (λ k l e. absurd (omega (arith, d 0 (suc k) (omega arith) (omega arith) e))))
    (distinct-passes xs (λ i j l m e. let same = d (suc i) (suc j) (omega arith) (omega arith) e in omega arith))

one_equal : (x : ℕ) (xs : List ℕ) (k : ℕ) → k < length xs → x ≡ code xs k → any (eqb x) xs ≡ true
one_equal x [] k l e = absurd (omega arith)
one_equal x (y ∷ ys) zero l e = rw (eq-eqb x y e)
one_equal x (y ∷ ys) (suc k) l e = rw (one_equal x ys k (omega arith) e, or-true)

pub twice_fails : (codes : List ℕ) (i j : ℕ) → i < j → j < length codes → code codes i ≡ code codes j
    → distinct codes ≡ false
twice_fails [] i j l m e = absurd (omega arith)
twice_fails (x ∷ xs) i zero l m e = absurd (omega arith)
twice_fails (x ∷ xs) zero (suc j) l m e = rw (one_equal x xs j (omega arith) e)
twice_fails (x ∷ xs) (suc i) (suc j) l m e =
    rw (twice_fails xs i j (omega arith) (omega arith) e, and-false)
