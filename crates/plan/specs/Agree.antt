-- Two rules that agree: the same refusal of both, or results of both that fit.
-- Assumes nothing.
use Rattle.std.specs.Prelude.{Bool, true, false, List, ◌↔◌, ◌≡◌, refl, ℕ, eqb}
use Rattle.store.specs.Lists.{lowest}
use Rattle.rules.specs.declared.Refusal.{Refusal}
use Rattle.rules.specs.Refusals.{Got, ok, refused, ◌>>=◌, ◌>>◌, refuse, place}
use Rattle.rules.proofs.Settled.{same_given}
use Rattle.theorems.specs.Taken.{FreePlace, place-passed}
use Rattle.plan.specs.Plan.{count}
use Rattle.plan.specs.Counting.{lowest-count}

pub data Agree {A B : Type 0} (R : A → B → Type 0) : Got A → Got B → Type 0 where
  given : {a : A} {b : B} → R a b → Agree R (ok a) (ok b)
  same : {r : Refusal} → Agree R (refused r) (refused r)

-- ## What it says

module _ {A B : Type 0} {R : A → B → Type 0} where
  pub same_refusal : {g : Got A} {h : Got B} → Agree R g h → (r : Refusal) → (h ≡ refused r) ↔ (g ≡ refused r)
  same_refusal (given x) r = (
    λ e. absurd (cc),
    λ e. absurd (cc),
  )
  same_refusal same r = (λ e. cc, λ e. cc)

  pub both_given : {g : Got A} {h : Got B} → Agree R g h → ((b : B) × (h ≡ ok b)) ↔ ((a : A) × (g ≡ ok a))
  both_given (given {a} {b} x) = (λ e. (a, refl), λ e. (b, refl))
  both_given same = (
    λ e. let f = e.1 in absurd (cc),
    λ e. let f = e.1 in absurd (cc),
  )

  pub agree_given : {g : Got A} {h : Got B} → Agree R g h → {a : A} → g ≡ ok a → (b : B) × R a b
  agree_given (given {a} {b} x) e = (b, rw (same_given e) at x)
  agree_given same e = absurd (cc)

-- ## How it is built

module _ {A B C D : Type 0} {R : A → B → Type 0} {Q : C → D → Type 0} where
  pub agree_bind : {g : Got A} {h : Got B} {f : A → Got C} {k : B → Got D} → Agree R g h
      → ((a : A) (b : B) → g ≡ ok a → R a b → Agree Q (f a) (k b)) → Agree Q (g >>= f) (h >>= k)
  agree_bind (given {a} {b} x) rest = rest a b refl x
  agree_bind same rest = same

  pub agree_then : {g : Got A} {h : Got B} {f : A → Got C} {k : Got D} → Agree R g h
      → ((a : A) (b : B) → R a b → Agree Q (f a) k) → Agree Q (g >>= f) (h >> k)
  agree_then (given {a} {b} x) rest = rest a b x
  agree_then same rest = same

-- A result that is then written down.
pub agree-map : {A B C : Type 0} {R : A → B → Type 0} {Q : C → B → Type 0} {g : Got A} {h : Got B}
    → (f : A → C) → Agree R g h → ((a : A) (b : B) → R a b → Q (f a) b) → Agree Q (g >>= λ a. ok (f a)) h
agree-map f (given {a} {b} x) fits = given (fits a b x)
agree-map f same fits = same

-- A test of each, of the same event.
pub agree_guard : {A B : Type 0} {R : A → B → Type 0} (r : Refusal) {e f : Bool} {g : Got A} {h : Got B}
    → e ≡ f → Agree R g h → Agree R (refuse r e >> g) (refuse r f >> h)
agree_guard {R = R} r {e} {f} {g} {h} q rest = rw (← q) (go e)
  where
    go : (e : Bool) → Agree R (refuse r e >> g) (refuse r e >> h)
    go true = same
    go false = rest

-- A free place, and the test that there is any of the k free records.
pub agree-place : {A : Type 0} (r : Refusal) (is_free : A → Bool) (d : A) (xs : List A) {k : ℕ}
    → count is_free xs ≡ k → Agree (λ n x. FreePlace is_free d xs n) (place r is_free xs) (refuse r (eqb k 0))
agree-place r is_free d xs q =
    rw (← q, ← lowest-count is_free 0 xs) (go (eqb n 0) (λ e. place-passed r is_free d xs n (rw e)))
  where
    n : ℕ
    n = lowest is_free 1 xs

    go : (b : Bool) → (b ≡ false → FreePlace is_free d xs n)
        → Agree (λ n x. FreePlace is_free d xs n) (refuse r b >> ok n) (refuse r b)
    go true h = same
    go false h = given (h refl)
