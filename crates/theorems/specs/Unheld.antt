-- NoShape: "place 0, above S, free, or without holds": every call that names such a shape is refused.
-- Assumes nothing.
use Rattle.std.specs.Prelude.{Bool, true, ◌&&◌, ℕ}
use Rattle.std.proofs.Math.Option.{Option, none, some}
use Rattle.std.proofs.Math.Path.{◌≡◌}
use Rattle.std.proofs.Common.{arith}
use Rattle.slot.specs.Attributes.{good_attributes}
use Rattle.store.specs.Model.{Model}
use Rattle.store.specs.ListLaws.{and_both}
use Rattle.rules.specs.declared.Refusal.TheVariants.{NoShape}
use Rattle.rules.specs.Numbers.{good_key}
use Rattle.rules.specs.Refusals.{refused}
use Rattle.rules.specs.Calls.{Question, lookup, keys_into, prototype_of, is_shared, transitions_of, properties_of}
use Rattle.rules.specs.Calls.{Call, new_root, new_unique, insert_key, change_key, remove_key, change_prototype, hold}
use Rattle.rules.specs.Calls.{release, previous, sweep, ask, unheld, perform}

-- The shape that a call names.
abbrev pub named : Call → Option ℕ
named new_root = none
named new_unique = none
named (insert_key n k a) = some n
named (change_key n k a) = some n
named (remove_key n k) = some n
named (change_prototype n p) = some n
named (hold n) = some n
named (release n) = some n
named (previous n) = some n
named sweep = none
named (ask n q) = some n

-- Its key and attributes are good, where it has any: BadKey and BadAttributes come before NoShape.
abbrev pub good_question : Question → Bool
good_question (lookup k) = good_key k
good_question (keys_into out) = true
good_question prototype_of = true
good_question is_shared = true
good_question transitions_of = true
good_question properties_of = true

abbrev pub good_call : Call → Bool
good_call new_root = true
good_call new_unique = true
good_call (insert_key n k a) = good_key k && good_attributes a
good_call (change_key n k a) = good_key k && good_attributes a
good_call (remove_key n k) = good_key k
good_call (change_prototype n p) = true
good_call (hold n) = true
good_call (release n) = true
good_call (previous n) = true
good_call sweep = true
good_call (ask n q) = good_question q

same_named : (n k : ℕ) → some n ≡ some k → n ≡ k
same_named n k e = cc

question_refused : (m : Model) (n : ℕ) → unheld m n ≡ true → (q : Question) → good_question q ≡ true
    → perform m (ask n q) ≡ refused NoShape
unfolding perform
question_refused m n free (lookup k) good = rw (good, free)
question_refused m n free (keys_into out) good = rw free
question_refused m n free prototype_of good = rw free
question_refused m n free is_shared good = rw free
question_refused m n free transitions_of good = rw free
question_refused m n free properties_of good = rw free

module _ (m : Model) (n : ℕ) (free : unheld m n ≡ true) where
  pub unheld_refused : (c : Call) → named c ≡ some n → good_call c ≡ true → perform m c ≡ refused NoShape
  unfolding perform
  unheld_refused new_root e good = let z : ◌≡◌ {A = ℕ} 0 1 = cc in absurd (omega arith)
  unheld_refused new_unique e good = let z : ◌≡◌ {A = ℕ} 0 1 = cc in absurd (omega arith)
  unheld_refused sweep e good = let z : ◌≡◌ {A = ℕ} 0 1 = cc in absurd (omega arith)
  unheld_refused (insert_key k x a) e good =
      let (key, low) = and_both (good_key x) good in
      rw (key, low, same_named k n e, free)
  unheld_refused (change_key k x a) e good =
      let (key, low) = and_both (good_key x) good in
      rw (key, low, same_named k n e, free)
  unheld_refused (remove_key k x) e good = rw (good, same_named k n e, free)
  unheld_refused (change_prototype k p) e good = rw (same_named k n e, free)
  unheld_refused (hold k) e good = rw (same_named k n e, free)
  unheld_refused (release k) e good = rw (same_named k n e, free)
  unheld_refused (previous k) e good = rw (same_named k n e, free)
  unheld_refused (ask k q) e good = question_refused m k (rw (same_named k n e) free) q good
