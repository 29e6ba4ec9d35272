-- Laws on places: the record at a place, a record put there, the lowest place and the first record that pass
-- a test.
-- Assumes nothing.
use Rattle.std.specs.Prelude.{Bool, true, false, List, [], ◌∷◌, map, ◌⊎◌, ◌≢◌, ◌≡◌, refl, ℕ, zero, suc, ◌+◌, ◌≤◌, ◌<◌, eqb, length, get_or}
use Rattle.std.proofs.Common.{true≢false, inl, inr, sym, ◌∙◌, ap, not-suc-le-zero, le_of_suc-le-suc, add-zero, add-suc, suc-add, one-add, arith, eqb-true, length-set, get_or-set_same, get_or-set_other, set-set}
use Rattle.std.proofs.Math.Option.{none, some}
use Rattle.std.proofs.lemmas.Bool.{eqb-false}
use Rattle.std.proofs.lemmas.List.{set_comm, set-get_or}
use Rattle.std.specs.Prelude.{if◌then◌else◌}
use Rattle.store.specs.Lists.{at, put, numbered, lowest, first}

-- ## A record at a place, and one put there

module _ {A : Type 0} where
  pub length-put : (xs : List A) (n : ℕ) (x : A) → length (put xs n x) ≡ length xs
  length-put xs zero x = refl
  length-put xs (suc n) x = length-set xs n x

  pub at_put_same : (xs : List A) (n : ℕ) (x d : A) → 1 ≤ n → n ≤ length xs → at (put xs n x) n d ≡ x
  at_put_same xs zero x d low high = absurd (not-suc-le-zero low)
  at_put_same xs (suc n) x d low high = get_or-set_same xs n x d high

  pub at_put_other : (xs : List A) (n k : ℕ) (x d : A) → k ≢ n → at (put xs n x) k d ≡ at xs k d
  at_put_other xs zero k x d h = refl
  at_put_other xs (suc n) zero x d h = refl
  at_put_other xs (suc n) (suc k) x d h = get_or-set_other xs n k x d (λ e. h (ap suc e))

  pub at_tail : (x : A) (xs : List A) (n : ℕ) (d : A) → 1 ≤ n → at (x ∷ xs) (suc n) d ≡ at xs n d
  at_tail x xs zero d low = absurd (not-suc-le-zero low)
  at_tail x xs (suc n) d low = refl

  -- A place whose record differs from the default in a test is inside.
  pub at-inside : (test : A → Bool) (xs : List A) (n : ℕ) (d : A) → test d ≡ true → test (at xs n d) ≡ false
      → (1 ≤ n) × (n ≤ length xs)
  at-inside test xs zero d e h = absurd (true≢false (sym e ∙ h))
  at-inside test [] (suc n) d e h = absurd (true≢false (sym e ∙ h))
  at-inside test (x ∷ xs) (suc zero) d e h = omega arith
  at-inside test (x ∷ xs) (suc (suc n)) d e h = let r = at-inside test xs (suc n) d e h in omega arith

  -- Two places are replaced in either order.
  pub put-put : (xs : List A) (n k : ℕ) (x y : A) → n ≢ k → put (put xs n x) k y ≡ put (put xs k y) n x
  put-put xs zero k x y h = refl
  put-put xs (suc n) zero x y h = refl
  put-put xs (suc n) (suc k) x y h = set_comm xs n k x y (λ e. h (ap suc e))

  -- The second of two records put at one place stays.
  pub put-again : (xs : List A) (n : ℕ) (x y : A) → put (put xs n x) n y ≡ put xs n y
  put-again xs zero x y = refl
  put-again xs (suc n) x y = set-set xs n x y

  -- A record put back where it stands changes nothing.
  pub put_back : (xs : List A) (n : ℕ) (d : A) → put xs n (at xs n d) ≡ xs
  put_back xs zero d = refl
  put_back xs (suc n) d = set-get_or xs n d

  -- A test that does not see the change finds the same place.
  pub lowest-put : (test : A → Bool) (start : ℕ) (xs : List A) (n : ℕ) (x d : A) → test x ≡ test (at xs n d)
      → lowest test start (put xs n x) ≡ lowest test start xs
  lowest-put test start xs zero x d h = refl
  lowest-put test start [] (suc n) x d h = refl
  lowest-put test start (y ∷ ys) (suc zero) x d h = rw h
  lowest-put test start (y ∷ ys) (suc (suc n)) x d h =
      ap (λ (p : ℕ). if test y then start else p) (lowest-put test (suc start) ys (suc n) x d h)

pub same? : (m n : ℕ) → (m ≡ n) ⊎ (m ≢ n)
same? m n = go (eqb m n) refl
  where
    go : (b : Bool) → eqb m n ≡ b → (m ≡ n) ⊎ (m ≢ n)
    go true e = inl (eqb-true m n e)
    go false e = inr (eqb-false m n e)

-- What stands at place k after x is put at place n: x there, and elsewhere what stood before.
pub data AfterPut {A : Type 0} (n k : ℕ) (x before now : A) : Type 0 where
  here : k ≡ n → now ≡ x → AfterPut n k x before now
  elsewhere : k ≢ n → now ≡ before → AfterPut n k x before now

pub after-put : {A : Type 0} (xs : List A) (n : ℕ) (x d : A) → 1 ≤ n → n ≤ length xs
    → (k : ℕ) → AfterPut n k x (at xs k d) (at (put xs n x) k d)
after-put xs n x d low high k = go (same? k n)
  where
    go : (k ≡ n) ⊎ (k ≢ n) → AfterPut n k x (at xs k d) (at (put xs n x) k d)
    go (inl e) = here e (rw e (at_put_same xs n x d low high))
    go (inr e) = elsewhere e (at_put_other xs n k x d e)

-- The same with no bounds: past the end nothing is put.
pub put-or-not : {A : Type 0} (xs : List A) (n : ℕ) (x d : A) (k : ℕ)
    → (at (put xs n x) k d ≡ at xs k d) ⊎ ((k ≡ n) × (at (put xs n x) k d ≡ x))
put-or-not xs zero x d k = inl refl
put-or-not [] (suc n) x d k = inl refl
put-or-not (y ∷ ys) (suc zero) x d zero = inl refl
put-or-not (y ∷ ys) (suc zero) x d (suc zero) = inr (refl, refl)
put-or-not (y ∷ ys) (suc zero) x d (suc (suc k)) = inl refl
put-or-not (y ∷ ys) (suc (suc n)) x d zero = inl refl
put-or-not (y ∷ ys) (suc (suc n)) x d (suc zero) = inl refl
put-or-not {A} (y ∷ ys) (suc (suc n)) x d (suc (suc k)) = go (put-or-not ys (suc n) x d (suc k))
  where
    now : A
    now = at (put ys (suc n) x) (suc k) d

    go : (now ≡ at ys (suc k) d) ⊎ ((suc k ≡ suc n) × (now ≡ x))
        → (now ≡ at ys (suc k) d) ⊎ ((suc (suc k) ≡ suc (suc n)) × (now ≡ x))
    go (inl q) = inl q
    go (inr (e, q)) = inr (ap suc e, q)

module _ {A : Type 0} {x before now : A} where
  pub put_here : {n : ℕ} → AfterPut n n x before now → now ≡ x
  put_here (here e q) = q
  put_here (elsewhere e q) = absurd (e refl)

  pub put_elsewhere : {n k : ℕ} → k ≢ n → AfterPut n k x before now → now ≡ before
  put_elsewhere h (here e q) = absurd (h e)
  put_elsewhere h (elsewhere e q) = q

-- ## Each record changed

-- A change that leaves d as it is acts place by place.
pub at_map : {A : Type 0} (f : A → A) (xs : List A) (n : ℕ) (d : A) → f d ≡ d
    → at (map f xs) n d ≡ f (at xs n d)
at_map f xs zero d e = sym e
at_map f [] (suc n) d e = sym e
at_map f (x ∷ xs) (suc zero) d e = refl
at_map f (x ∷ xs) (suc (suc n)) d e = at_map f xs (suc n) d e

module _ {A B : Type 0} (f : ℕ × A → B) (d : A) (e : B) (same : (n : ℕ) → f (n, d) ≡ e) where
  -- So does one that sees the place too and makes e of d everywhere: numbered from a start,
  map-from : (start : ℕ) (xs : List A) (k : ℕ)
      → get_or (map f (numbered start xs)) k e ≡ f (start + k, get_or xs k d)
  map-from start [] k = sym (same (start + k))
  map-from start (x ∷ xs) zero = rw add-zero
  map-from start (x ∷ xs) (suc k) = map-from (suc start) xs k ∙ rw (add-suc, suc-add)

  -- and numbered from 1.
  pub at-map-numbered : (xs : List A) (n : ℕ) → at (map f (numbered 1 xs)) n e ≡ f (n, at xs n d)
  at-map-numbered xs zero = sym (same 0)
  at-map-numbered xs (suc k) = rw one-add at (map-from 1 xs k)

pub length-numbered : {A : Type 0} (start : ℕ) (xs : List A) → length (numbered start xs) ≡ length xs
length-numbered start [] = refl
length-numbered start (x ∷ xs) = ap suc (length-numbered (suc start) xs)

-- ## Positions, the first of them 0

module _ {A : Type 0} (test : A → Bool) (d : A) where
  -- No record at a position below n passes.
  abbrev pub NoneBelow : List A → (n : ℕ) → Type 0
  NoneBelow xs n = (j : ℕ) → j < n → test (get_or xs j d) ≡ false

  -- The record at position k is the first that passes.
  pub record FirstAt (xs : List A) (k : ℕ) : Type 0 where
    pub inside : k < length xs
    pub passes : test (get_or xs k d) ≡ true
    pub none_before : NoneBelow xs k

  -- One record more that does not pass.
  one_more : (x : A) (xs : List A) (n : ℕ) → test x ≡ false → NoneBelow xs n → NoneBelow (x ∷ xs) (suc n)
  one_more x xs n e h zero l = e
  one_more x xs n e h (suc j) l = h j (le_of_suc-le-suc l)

  -- Either one is the first that passes, or none passes.
  abbrev pub FirstOrNone : List A → Type 0
  FirstOrNone xs = ((k : ℕ) × FirstAt xs k) ⊎ NoneBelow xs (length xs)

  pub first_or_none : (xs : List A) → FirstOrNone xs
  first_or_none [] = inr (λ j l. absurd (not-suc-le-zero l))
  first_or_none (x ∷ xs) = go (test x) refl (first_or_none xs)
    where
      go : (b : Bool) → test x ≡ b → FirstOrNone xs → FirstOrNone (x ∷ xs)
      go true e h =
          inl (0, record { inside = omega arith; passes = e; none_before = λ j l. absurd (not-suc-le-zero l) })
      go false e (inl (k, f)) =
          let l = f.inside in
          let before = one_more x xs k e f.none_before in
          inl (suc k, record { inside = omega arith; passes = f.passes; none_before = before })
      go false e (inr h) = inr (one_more x xs (length xs) e h)

  first_rest : (x : A) (xs : List A) (k : ℕ) → FirstAt (x ∷ xs) (suc k) → FirstAt xs k
  first_rest x xs k f =
      record {
        inside = le_of_suc-le-suc f.inside;
        passes = f.passes;
        none_before = λ j l. f.none_before (suc j) (omega arith);
      }

  -- The lowest is the first that passes, numbered from n,
  pub lowest-first : (n : ℕ) (xs : List A) (k : ℕ) → FirstAt xs k → lowest test n xs ≡ n + k
  lowest-first n [] k f = absurd (not-suc-le-zero f.inside)
  lowest-first n (x ∷ xs) zero f = rw f.passes (omega arith)
  lowest-first n (x ∷ xs) (suc k) f =
      rw (f.none_before 0 (omega arith)) (lowest-first (suc n) xs k (first_rest x xs k f) ∙ omega arith)

  -- and 0 if none passes.
  pub lowest-none : (n : ℕ) (xs : List A) → NoneBelow xs (length xs) → lowest test n xs ≡ 0
  lowest-none n [] h = refl
  lowest-none n (x ∷ xs) h =
      rw (h 0 (omega arith)) (lowest-none (suc n) xs (λ j l. h (suc j) (omega arith)))

  -- The same of `first`: it is that record, or there is none.
  pub first_found : (xs : List A) (k : ℕ) → FirstAt xs k → first test xs ≡ some (get_or xs k d)
  first_found [] k f = absurd (not-suc-le-zero f.inside)
  first_found (x ∷ xs) zero f = rw f.passes
  first_found (x ∷ xs) (suc k) f =
      rw (f.none_before 0 (omega arith)) (first_found xs k (first_rest x xs k f))

  pub first-none : (xs : List A) → NoneBelow xs (length xs) → first test xs ≡ none
  first-none [] h = refl
  first-none (x ∷ xs) h = rw (h 0 (omega arith)) (first-none xs (λ j l. h (suc j) (omega arith)))
