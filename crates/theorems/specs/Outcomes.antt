-- What each change of a shape leads to, as document 01 says it.
-- Assumes nothing.
use Rattle.std.specs.Prelude.{Bool, true, false, not, List, [], ◌∷◌, ◌++◌, ℕ}
use Rattle.std.specs.Prelude.{if◌then◌else◌}
use Rattle.slot.specs.Attributes.{same_width}
use Rattle.store.specs.Model.{Model, shape_at}
use Rattle.store.specs.declared.Entry.{Entry}
use Rattle.rules.specs.declared.ChangeTransitionAction.{ChangeTransitionAction}
use Rattle.rules.specs.declared.ChangeTransitionAction.TheVariants.{Nothing}
use Rattle.rules.specs.Shapes.{has, attributes_in, appended, configured, without, laid, unique}
use Rattle.rules.specs.Steps.{Step, insert, prototype, rollback}
use Rattle.rules.specs.Calls.{action_for}
use Rattle.rules.specs.Trails.{trail}
use Rattle.theorems.specs.Made.{entries_at, prototype_at}
use Rattle.theorems.specs.InTurn.{steps_entries}
use Rattle.theorems.specs.TrailRules.{trail_without, trail_changed}

pub record Outcome : Type 0 where
  pub action : ChangeTransitionAction
  -- the result's
  pub entries : List Entry
  pub prototype : ℕ
  -- of a shared shape: the trail that the steps lead to, before the limit is looked at
  pub trail : List Step
  -- of a unique: whether it acts on the same number; if not, the prototype that the old one is left with,
  -- without keys
  pub same : Bool
  pub left : ℕ

module _ (m : Model) (n : ℕ) where
  -- The steps of a removal and of a change of width, from the rollback's base.
  abbrev pub removal_steps : (key : ℕ) → List Step
  removal_steps k = let b = rollback m n k in b.newest ++ b.yielded

  abbrev pub change_steps : (key attributes : ℕ) → List Step
  change_steps k a = let b = rollback m n k in b.newest ++ insert k a ∷ b.yielded

  abbrev from_base : (key : ℕ) → List Step → List Entry
  from_base k ts = steps_entries ts (entries_at m (rollback m n k).base)

  -- The key stands at the end, with its attributes.
  abbrev pub by_insert : (key attributes : ℕ) → Outcome
  by_insert k a =
      record {
        action = Nothing;
        entries = appended (entries_at m n) k a;
        prototype = prototype_at m n;
        trail = trail m n ++ insert k a ∷ [];
        same = true;
        left = 0;
      }

  -- At equal width the key has other attributes and all else stays. At another width all slots are worked
  -- out, and a shared shape's entries are those that the steps from the base lead to.
  abbrev pub by_change : (key attributes : ℕ) → Outcome
  by_change k a =
      let es = entries_at m n in
      let same = same_width (attributes_in k es) a in
      record {
        action = action_for (attributes_in k es) a;
        entries =
            if same then configured es k a
            else if unique (shape_at m n) then laid 0 (configured es k a)
            else from_base k (change_steps k a);
        prototype = prototype_at m n;
        trail = trail_changed (trail m n) k a;
        same = same;
        left = 0;
      }

  -- The key is gone and all slots are worked out; a shared shape's entries are those that the steps from the
  -- base lead to.
  abbrev pub by_removal : (key : ℕ) → Outcome
  by_removal k =
      let es = entries_at m n in
      record {
        action = Nothing;
        entries =
            if unique (shape_at m n) then laid 0 (without es k)
            else from_base k (removal_steps k);
        prototype = prototype_at m n;
        trail = trail_without (trail m n) k;
        same = not (has k es);
        left = 0;
      }

  -- Only the prototype is another.
  abbrev pub by_prototype : (to : ℕ) → Outcome
  by_prototype p =
      record {
        action = Nothing;
        entries = entries_at m n;
        prototype = p;
        trail = trail m n ++ prototype p ∷ [];
        same = false;
        left = prototype_at m n;
      }
