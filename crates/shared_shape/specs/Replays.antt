-- The steps of a removal and of a change: they may be taken, and they are the rule's.
-- Assumes nothing.
use Rattle.std.specs.Prelude.{Bool, true, false, List, ◌∷◌, ◌++◌, ◌≡◌, ℕ, ◌-◌, ◌≤◌, ◌<◌, Some, length, take, drop, map}
use Rattle.std.proofs.Common.{sym, ap, ◌∙◌, arith, le-leb}
use Rattle.slot.specs.Attributes.{most_stored, same_width}
use Rattle.store.specs.Model.{Model, shape_at}
use Rattle.store.specs.ListLaws.{both-and}
use Rattle.store.specs.declared.Entry.{Entry}
use Rattle.rules.specs.Numbers.{good_key}
use Rattle.rules.specs.declared.Step.{Step as StepValue}
use Rattle.rules.specs.Placing.{step_in, steps_from}
use Rattle.rules.specs.Shapes.{has, attributes_in}
use Rattle.rules.specs.Steps.{Step, insert, configure, Back, steps, step, rollback, remove_shared}
use Rattle.rules.specs.Steps.{change_shared}
use Rattle.rules.specs.InUse.{shared_used}
use Rattle.theorems.specs.Facts.{Sound}
use Rattle.theorems.specs.Child.{Legal}
use Rattle.theorems.specs.Made.{SharedAt, entries_at, transitions_at}
use Rattle.theorems.specs.Rollback.{RolledBack, rolled_back}
use Rattle.theorems.specs.Sequence.{good_label_lem}
use Rattle.property_table.specs.declared.Property.{Property}
use Rattle.property_table.specs.Lookup.{looked_up, looked_attributes}
use Rattle.plan.specs.PlanRight.{LegalSteps}
use Rattle.plan.specs.PlanLegal.{legal_steps}
use Rattle.rollback.specs.StepsFrom.{StepsFrom}

-- The part of the room from a place on has the steps that stand there.
pub left_from : {room : List StepValue} {start : ℕ} {ts : List Step} → length room ≡ 1024 → StepsFrom room start ts
    → map step_in (take (1024 - start) (drop start room)) ≡ ts
left_from {room} {start} all from =
    ap (λ n. map step_in (take (n - start) (drop start room))) (sym all) ∙ steps_from room start ∙ from.steps

module _ (m : Model) (sound : Sound m) (n k : ℕ) (is_shared : SharedAt m n)
    (holds : has k (entries_at m n) ≡ true) where
  abbrev b : Back
  b = rollback m n k

  rolled : RolledBack m n k b
  rolled = rolled_back m sound n k is_shared holds

  most : transitions_at m n ≤ 1024
  most = (sound.shapes n (shared_used (shape_at m n) is_shared)).words.transitions

  module _ {base : ℕ} (from : base ≡ b.base) where
    pub base-shared : SharedAt m base
    base-shared = rw from rolled.found.base_shared

    module _ {ts : List Step} (these : ts ≡ b.newest ++ b.yielded) where
      pub removal_legal : LegalSteps ts m base
      removal_legal =
          rw (from, these)
          (legal_steps (b.newest ++ b.yielded) m sound b.base rolled.found.base_shared
          rolled.removal.legal (omega (arith, rolled.shorter, most)))

      pub removal_is : steps ts m base ≡ remove_shared m n k
      unfolding remove_shared
      removal_is = rw (from, these)

    module _ {a : ℕ} (low : a ≤ most_stored) {ts : List Step} (these : ts ≡ b.newest ++ insert k a ∷ b.yielded) where
      pub change_legal : LegalSteps ts m base
      change_legal =
          rw (from, these)
          (legal_steps (b.newest ++ insert k a ∷ b.yielded) m sound b.base rolled.found.base_shared
          (rolled.change a (le-leb a most_stored low)).legal (omega (arith, rolled.no_longer a, most)))

      pub change_is : same_width (attributes_in k (entries_at m n)) a ≡ false
          → steps ts m base ≡ change_shared m n k a
      unfolding change_shared
      change_is other = rw (from, these, other)

  module _ (a : ℕ) (wide : same_width (attributes_in k (entries_at m n)) a ≡ true) where
    pub configure_legal : transitions_at m n < 1024 → good_key k ≡ true → a ≤ most_stored → Legal m n (configure k a)
    configure_legal below good low =
        let may = both-and holds wide in
        record {
          is_shared = is_shared;
          below = below;
          may = may;
          label = good_label_lem n (configure k a) (entries_at m n) (both-and good (le-leb a most_stored low)) may;
        }

    pub configure_is : step m n (configure k a) ≡ change_shared m n k a
    unfolding change_shared
    configure_is = rw wide

-- ## The key's width

pub width-told : (k a : ℕ) (es : List Entry) {p : Property} {r : Bool} → Some p ≡ looked_up k es
    → r ≡ same_width p.slot.attributes.0 a → r ≡ same_width (attributes_in k es) a
width-told k a es found told = told ∙ rw (looked_attributes k es (sym found))
