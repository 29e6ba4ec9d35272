-- Places and tests over lists: the small words that the rules are written in.
-- Assumes nothing.
use Rattle.std.specs.Prelude.{Bool, true, false, ◌&&◌, ◌||◌, List, [], ◌∷◌, ℕ, zero, suc, eqb, get_or, set}
use Rattle.std.proofs.Math.Option.{Option, none, some}
use Rattle.std.specs.Prelude.{if◌then◌else◌}

module _ {A : Type 0} where
  -- "Places are numbered from 1": the record at a place, d at place 0 and past the end.
  abbrev pub at : List A → ℕ → A → A
  at xs zero d = d
  at xs (suc n) d = get_or xs n d

  -- The list with another record at a place.
  abbrev pub put : List A → ℕ → A → List A
  put xs zero x = xs
  put xs (suc n) x = set xs n x

  -- Each record with its place, the first at n.
  abbrev pub numbered : ℕ → List A → List (ℕ × A)
  numbered n [] = []
  numbered n (x ∷ xs) = (n, x) ∷ numbered (suc n) xs

  -- The lowest place whose record passes the test, the first at n; 0 if none does.
  abbrev pub lowest : (A → Bool) → ℕ → List A → ℕ
  lowest test n [] = 0
  lowest test n (x ∷ xs) = if test x then n else lowest test (suc n) xs

  abbrev pub keep : (A → Bool) → List A → List A
  keep test [] = []
  keep test (x ∷ xs) = if test x then x ∷ keep test xs else keep test xs

  abbrev pub every : (A → Bool) → List A → Bool
  every test [] = true
  every test (x ∷ xs) = test x && every test xs

  abbrev pub any : (A → Bool) → List A → Bool
  any test [] = false
  any test (x ∷ xs) = test x || any test xs

  abbrev pub first : (A → Bool) → List A → Option A
  first test [] = none
  first test (x ∷ xs) = if test x then some x else first test xs

  abbrev pub last : List A → A → A
  last [] d = d
  last (x ∷ xs) d = last xs x

  -- There is exactly one, and it passes the test.
  abbrev pub only_one : (A → Bool) → List A → Bool
  only_one test [] = false
  only_one test (x ∷ []) = test x
  only_one test (x ∷ y ∷ xs) = false

-- Every test of a list passes.
abbrev pub all : List Bool → Bool
all [] = true
all (b ∷ bs) = b && all bs

-- Two lists of numbers are the same.
abbrev pub agree : List ℕ → List ℕ → Bool
agree [] [] = true
agree [] (y ∷ ys) = false
agree (x ∷ xs) [] = false
agree (x ∷ xs) (y ∷ ys) = eqb x y && agree xs ys

abbrev pub zeros : List ℕ → Bool
zeros ns = every (eqb 0) ns
