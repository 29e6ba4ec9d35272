-- The rules of a shape in either state: which of the two rules is meant, and what the one for shared shapes asks.
-- Assumes nothing.
use Rattle.std.specs.Prelude.{true, false, not, ◌≡◌, refl, ℕ, ◌≤◌}
use Rattle.std.proofs.Common.{◌∙◌, ap, le-leb}
use Rattle.slot.specs.Attributes.{most_stored}
use Rattle.store.specs.Model.{Model, shape_at}
use Rattle.store.specs.ListLaws.{both-and}
use Rattle.rules.specs.Numbers.{good_key}
use Rattle.rules.specs.Shapes.{has, unique}
use Rattle.rules.specs.Steps.{Step, insert, prototype, may_step, step, then_limit, remove_shared, change_shared}
use Rattle.rules.specs.Unique.{remove_unique, change_unique, prototype_unique, inserted, changed}
use Rattle.rules.specs.Unique.{removed, rebased}
use Rattle.rules.specs.Calls.{unheld}
use Rattle.theorems.specs.Facts.{Sound, shared-or-unique}
use Rattle.theorems.specs.Child.{Legal}
use Rattle.theorems.specs.Made.{SharedAt, entries_at, good_step}
use Rattle.theorems.specs.Sequence.{good_label_lem}
use Rattle.theorems.specs.Changes.{may_act}

module _ (m : Model) (n : ℕ) where
  module _ (is_unique : unique (shape_at m n) ≡ true) where
    pub change_of_unique : (k a : ℕ) → changed m n k a ≡ change_unique m n k a
    unfolding changed
    change_of_unique k a = rw is_unique

    pub removal_of_unique : (k : ℕ) → removed m n k ≡ remove_unique m n k
    unfolding removed
    removal_of_unique k = rw is_unique

    pub prototype_of_unique : (p : ℕ) → rebased m n p ≡ prototype_unique m n p
    unfolding rebased
    prototype_of_unique p = rw is_unique

  module _ (other : unique (shape_at m n) ≡ false) where
    pub insert_of_shared : (k a : ℕ) → inserted m n k a ≡ then_limit (step m n (insert k a))
    unfolding inserted
    insert_of_shared k a = rw other

    pub change_of_shared : (k a : ℕ) → changed m n k a ≡ then_limit (change_shared m n k a)
    unfolding changed
    change_of_shared k a = rw other

    pub removal_of_shared : (k : ℕ) → removed m n k ≡ then_limit (remove_shared m n k)
    unfolding removed
    removal_of_shared k = rw other

    pub prototype_of_shared : (p : ℕ) → rebased m n p ≡ then_limit (step m n (prototype p))
    unfolding rebased
    prototype_of_shared p = rw other

    module _ (sound : Sound m) (may : unheld m n ≡ false) where
      pub is_shared_lem : SharedAt m n
      is_shared_lem = shared-or-unique (sound.shapes n (may_act m sound n may).is_used).words ∙ ap not other

      legal : (t : Step) → good_step t ≡ true → may_step t (entries_at m n) ≡ true → Legal m n t
      legal t good allowed =
          record {
            is_shared = is_shared_lem;
            below = (may_act m sound n may).below;
            may = allowed;
            label = good_label_lem n t (entries_at m n) good allowed;
          }

      pub insert_legal : {k a : ℕ} → good_key k ≡ true → a ≤ most_stored → has k (entries_at m n) ≡ false
          → Legal m n (insert k a)
      insert_legal {k} {a} good low absent =
          legal (insert k a) (both-and good (le-leb a most_stored low)) (ap not absent)

      pub prototype_legal : (p : ℕ) → Legal m n (prototype p)
      prototype_legal p = legal (prototype p) refl refl
