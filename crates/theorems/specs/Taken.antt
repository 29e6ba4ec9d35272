-- How a rule that has given a result is taken apart: each part has given one too, and a place was free.
-- Assumes nothing.
use Rattle.std.specs.Prelude.{Bool, true, List, ◌≡◌, refl, ℕ, ◌≤◌, eqb, leb, length}
use Rattle.std.proofs.Common.{inl, inr, sym, arith, leb-true, leb-false}
use Rattle.store.specs.Lists.{at, lowest}
use Rattle.store.specs.ListLaws.{Decided, either, not-both}
use Rattle.rules.specs.declared.Refusal.{Refusal}
use Rattle.rules.specs.Refusals.{Got, ok, refused, ◌>>=◌, place}
use Rattle.rules.proofs.FirstLaws.{place_given, place_refused}
use Rattle.rules.proofs.Settled.{guard_passed, same_given}

-- What stands below a part has been given the part's result.
pub record Bound {A B : Type 0} (g : Got A) (f : A → Got B) (y : B) : Type 0 where
  pub result : A
  pub gave : g ≡ ok result
  pub below : f result ≡ ok y

pub bind_passed : {A B : Type 0} (g : Got A) (f : A → Got B) (y : B) → (g >>= f) ≡ ok y → Bound g f y
bind_passed (ok x) f y e = record { result = x; gave = refl; below = e }
bind_passed (refused r) f y e = let z : ◌≡◌ {A = ℕ} 0 1 = cc in absurd (omega arith)

-- A place inside whose record is free.
pub record FreePlace {A : Type 0} (is_free : A → Bool) (d : A) (xs : List A) (n : ℕ) : Type 0 where
  pub low : 1 ≤ n
  pub high : n ≤ length xs
  pub was_free : is_free (at xs n d) ≡ true

pub place-passed : {A : Type 0} (r : Refusal) (is_free : A → Bool) (d : A) (xs : List A) (n : ℕ)
    → place r is_free xs ≡ ok n → FreePlace is_free d xs n
place-passed r is_free d xs n e =
    let l = (place_given is_free d r xs n).0 e in
    record { low = l.low; high = l.high; was_free = l.passes }

-- It is the lowest one.
pub place-lowest : {A : Type 0} (r : Refusal) (is_free : A → Bool) (xs : List A) (n : ℕ)
    → place r is_free xs ≡ ok n → n ≡ lowest is_free 1 xs
place-lowest r is_free xs n e =
    let its = lowest is_free 1 xs in
    sym (same_given (guard_passed r (eqb its 0) (ok its) n e).1)

-- Where a place is free, one is given that is no higher.
pub place_found : {A : Type 0} (r : Refusal) (is_free : A → Bool) (d : A) (xs : List A) (n : ℕ) → 1 ≤ n
    → n ≤ length xs → is_free (at xs n d) ≡ true → (p : ℕ) × (place r is_free xs ≡ ok p) × (p ≤ n)
place_found r is_free d xs n low high is_free_n = go (either (eqb (lowest is_free 1 xs) 0))
  where
    its : ℕ
    its = lowest is_free 1 xs

    under : place r is_free xs ≡ ok its → Decided (leb its n) → its ≤ n
    under gave (inl q) = leb-true its n q
    under gave (inr q) =
        not-both is_free_n (((place_given is_free d r xs its).0 gave).none_below n low (leb-false its n q))

    go : Decided (eqb its 0) → (p : ℕ) × (place r is_free xs ≡ ok p) × (p ≤ n)
    go (inl q) = not-both is_free_n ((place_refused is_free d r xs).0 (rw q) n low high)
    go (inr q) = let gave : place r is_free xs ≡ ok its = rw q in (its, gave, under gave (either (leb its n)))
