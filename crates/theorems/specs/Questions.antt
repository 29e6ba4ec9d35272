-- A question of a held shape changes nothing and answers no shape.
-- Assumes nothing.
use Rattle.std.specs.Prelude.{not, ◌≡◌, ℕ, length}
use Rattle.std.proofs.Math.Option.{Option, none, some}
use Rattle.std.proofs.Math.Path.{refl}
use Rattle.std.proofs.Math.Dec.{ltb}
use Rattle.store.specs.Model.{Model}
use Rattle.store.specs.declared.Entry.{Entry}
use Rattle.rules.specs.declared.Refusal.TheVariants.{BadKey, NoShape, OutShort}
use Rattle.rules.specs.Numbers.{good_key}
use Rattle.rules.specs.Refusals.{ok}
use Rattle.rules.proofs.Settled.{guard_passed, same_given}
use Rattle.rules.specs.Sweep.{found, key_list}
use Rattle.rules.specs.Calls.{Question, lookup, keys_into, prototype_of, is_shared, transitions_of, properties_of}
use Rattle.rules.specs.Calls.{ask, Answer, unheld, slot_of, perform}
use Rattle.theorems.specs.Made.{entries_at}
use Rattle.theorems.specs.Quiet.{granted_by}

-- A call has left the model m as it was, and has answered no shape.
pub record Told (m : Model) (y : Model × Answer) : Type 0 where
  pub same_model : y.0 ≡ m
  pub no_shape : granted_by y.1 ≡ 0

pub told : (m : Model) (a : Answer) → granted_by a ≡ 0 → (y : Model × Answer) → ok (m, a) ≡ ok y → Told m y
told m a quiet y e = rw (← same_given e) record { same_model = refl; no_shape = quiet }

slot_grants : (o : Option Entry) → granted_by (slot_of o) ≡ 0
slot_grants none = refl
slot_grants (some e) = refl

module _ (m : Model) (n : ℕ) where
  pub question_told : (q : Question) (y : Model × Answer) → perform m (ask n q) ≡ ok y → Told m y
  unfolding perform
  question_told (lookup k) y e =
      let o = found k (entries_at m n) in
      let (_, e₁) = guard_passed BadKey (not (good_key k)) _ y e in
      told m (slot_of o) (slot_grants o) y (guard_passed NoShape (unheld m n) _ y e₁).1
  question_told (keys_into out) y e =
      let short = ltb (length out) (length (key_list (entries_at m n))) in
      let (_, e₁) = guard_passed NoShape (unheld m n) _ y e in
      told m _ refl y (guard_passed OutShort short _ y e₁).1
  question_told prototype_of y e = told m _ refl y (guard_passed NoShape (unheld m n) _ y e).1
  question_told is_shared y e = told m _ refl y (guard_passed NoShape (unheld m n) _ y e).1
  question_told transitions_of y e = told m _ refl y (guard_passed NoShape (unheld m n) _ y e).1
  question_told properties_of y e = told m _ refl y (guard_passed NoShape (unheld m n) _ y e).1
