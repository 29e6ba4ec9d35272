-- How many records pass a test, after one is replaced; and that a place is free where some do.
-- Assumes nothing.
use Rattle.std.specs.Prelude.{Bool, true, false, ◌&&◌, List, [], ◌∷◌, ◌≢◌, ◌≡◌, refl, ℕ, zero, suc, ◌+◌, ◌-◌, ◌≤◌, eqb, length}
use Rattle.std.proofs.Common.{sym, ◌∙◌, not-suc-le-zero, arith, eqb-true, ne_eqb}
use Rattle.std.proofs.Math.Dec.{eqb-suc-zero}
use Rattle.std.specs.Prelude.{if◌then◌else◌}
use Rattle.store.specs.Lists.{at, put, keep, lowest}
use Rattle.store.specs.Model.{no_edge, free_edge}
use Rattle.store.specs.ListLaws.{and_both}
use Rattle.store.specs.declared.Edge.{Edge}
use Rattle.rules.specs.Steps.{dead, prune}
use Rattle.theorems.specs.Taken.{FreePlace}
use Rattle.plan.specs.Plan.{count}

abbrev bit : Bool → ℕ
bit b = if b then 1 else 0

module _ {A : Type 0} (test : A → Bool) where
  count-cons : (x : A) (xs : List A) → count test (x ∷ xs) ≡ bit (test x) + count test xs
  count-cons x xs = go (test x)
    where
      go : (b : Bool) → length (if b then x ∷ keep test xs else keep test xs) ≡ bit b + count test xs
      go true = omega arith
      go false = omega arith

  count-put : (xs : List A) (n : ℕ) (x d : A) → 1 ≤ n → n ≤ length xs
      → bit (test x) + count test xs ≡ bit (test (at xs n d)) + count test (put xs n x)
  count-put xs zero x d low high = absurd (not-suc-le-zero low)
  count-put [] (suc n) x d low high = absurd (not-suc-le-zero high)
  count-put (y ∷ ys) (suc zero) x d low high = omega (arith, count-cons y ys, count-cons x ys)
  count-put (y ∷ ys) (suc (suc n)) x d low high =
      let rest = count-put ys (suc n) x d (omega arith) (omega arith) in
      omega (arith, count-cons y ys, count-cons y (put ys (suc n) x))

  -- One that passes is replaced by one that does not,
  pub count-taken : (xs : List A) (n : ℕ) (x d : A) → FreePlace test d xs n → test x ≡ false
      → count test xs - 1 ≡ count test (put xs n x)
  count-taken xs n x d p now =
      let r = count-put xs n x d p.low p.high in omega (arith, rw (p.was_free, now) at r)

  -- or by one that passes exactly where it does.
  pub count_same : (xs : List A) (n : ℕ) (x d : A) → 1 ≤ n → n ≤ length xs → test x ≡ test (at xs n d)
      → count test (put xs n x) ≡ count test xs
  count_same xs n x d low high same =
      let r = count-put xs n x d low high in omega (arith, rw same at r)

  -- There is a lowest exactly where there is any.
  pub lowest-count : (n : ℕ) (xs : List A) → eqb (lowest test (suc n) xs) 0 ≡ eqb (count test xs) 0
  lowest-count n [] = refl
  lowest-count n (x ∷ xs) = go (test x) (lowest-count (suc n) xs)
    where
      go : (b : Bool) → eqb (lowest test (suc (suc n)) xs) 0 ≡ eqb (count test xs) 0
          → eqb (if b then suc n else lowest test (suc (suc n)) xs) 0
          ≡ eqb (length (if b then x ∷ keep test xs else keep test xs)) 0
      go true again = eqb-suc-zero n ∙ sym (eqb-suc-zero (count test xs))
      go false again = again

-- What a prune gives back.
pub count-pruned : (n kind : ℕ) → n ≢ 0 → (es : List Edge)
    → count free_edge (prune n kind es) ≡ count free_edge es + count (dead n kind) es
count-pruned n kind place [] = refl
count-pruned n kind place (e ∷ es) =
    let rest = count-pruned n kind place es in
    let its = if dead n kind e then no_edge else e in
    omega (
      arith,
      count-cons free_edge its (prune n kind es),
      count-cons free_edge e es,
      count-cons (dead n kind) e es,
      one (dead n kind e) used,
    )
  where
    used : dead n kind e ≡ true → free_edge e ≡ false
    used d =
        let both = (and_both (eqb e.parent n && eqb e.kind kind) d).0 in
        let parent = (and_both (eqb e.parent n) both).0 in
        ne_eqb e.parent 0 (λ z. place (sym (eqb-true e.parent n parent) ∙ z))

    one : (b : Bool) → (b ≡ true → free_edge e ≡ false)
        → bit (free_edge (if b then no_edge else e)) ≡ bit (free_edge e) + bit b
    one true h = rw (h refl)
    one false h = omega arith
