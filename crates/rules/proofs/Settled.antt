-- How a call is taken apart: what has passed where it answers, and what is left where it is refused.
-- Assumes nothing.
use Rattle.std.specs.Prelude.{Bool, true, false, ◌≡◌, refl, ℕ}
use Rattle.std.proofs.Common.{arith}
use Rattle.std.specs.Prelude.{if◌then◌else◌}
use Rattle.store.specs.Model.{Model}
use Rattle.rules.specs.declared.Refusal.{Refusal}
use Rattle.rules.specs.declared.Refusal.TheVariants.{Damaged}
use Rattle.rules.specs.Refusals.{Got, ok, refused, ◌>>◌, refuse}
use Rattle.rules.specs.Sound.{sound_model}
use Rattle.rules.specs.Calls.{Call, Answer, perform, No, Yes, settle, call}

-- A rule that gives a result has met no event of a refusal, and what stands below has given it.
pub guard_passed : {A : Type 0} (r : Refusal) (event : Bool) (g : Got A) (x : A)
    → (refuse r event >> g) ≡ ok x
    → (event ≡ false) × (g ≡ ok x)
guard_passed r true g x e = let z : ◌≡◌ {A = ℕ} 0 1 = cc in absurd (omega arith)
guard_passed r false g x e = (refl, e)

-- Two results that are the same have given the same.
pub same_given : {A : Type 0} {x y : A} → ok x ≡ ok y → x ≡ y
same_given e = cc

module _ {A : Type 0} (before : A) where
  -- A rule that refuses leaves what was before,
  pub settle_refused : (g : Got (A × Answer)) (r : Refusal) → (settle before g).1 ≡ No r
      → (settle before g).0 ≡ before
  settle_refused (ok x) r e = let z : ◌≡◌ {A = ℕ} 0 1 = cc in absurd (omega arith)
  settle_refused (refused q) r e = refl

  -- and one that answers has given both.
  pub settle_answered : (g : Got (A × Answer)) (a : Answer) → (settle before g).1 ≡ Yes a
      → g ≡ ok ((settle before g).0, a)
  settle_answered (ok (after, b)) a e = let z : b ≡ a = cc in rw z
  settle_answered (refused q) a e = let z : ◌≡◌ {A = ℕ} 0 1 = cc in absurd (omega arith)

-- A call that answers has found the model sound, and performed what it answers.
pub call_answered : (m : Model) (c : Call) (a : Answer) → (call m c).1 ≡ Yes a
    → (sound_model m ≡ true) × (perform m c ≡ ok ((call m c).0, a))
unfolding call
call_answered m c a e = go (sound_model m) e
  where
    go : (b : Bool) → (settle m (if b then perform m c else refused Damaged)).1 ≡ Yes a
        → (b ≡ true) × (perform m c ≡ ok ((settle m (if b then perform m c else refused Damaged)).0, a))
    go true e = (refl, settle_answered m (perform m c) a e)
    go false e = let z : ◌≡◌ {A = ℕ} 0 1 = cc in absurd (omega arith)
