-- What the rules give may be held: it stands at a place, and nothing has been written where it has all its holds.
-- Assumes nothing.
use Rattle.std.proofs.Math.Bool.{true}
use Rattle.std.specs.Prelude.{false, ◌&&◌, List, [], ◌∷◌, ◌≡◌, ℕ, ◌≤◌, leb, length}
use Rattle.std.proofs.Common.{inl, inr, sym, arith, leb-false, le-leb}
use Rattle.std.proofs.Math.Path.{refl, ap}
use Rattle.slot.specs.Attributes.{most_stored, same_width}
use Rattle.store.specs.Model.{Model, shape_at}
use Rattle.store.specs.ListLaws.{Decided, either}
use Rattle.store.specs.declared.Shape.{Shape}
use Rattle.store.specs.declared.Entry.{Entry}
use Rattle.rules.specs.Numbers.{good_key}
use Rattle.rules.specs.Shapes.{has, attributes_in, without, laid, configured, unique, root_shape, unique_shape}
use Rattle.rules.specs.Refusals.{Got, ok}
use Rattle.rules.proofs.Settled.{same_given}
use Rattle.rules.specs.Steps.{Step, insert, configure, prototype, Placed, step, steps, rollback, fresh}
use Rattle.rules.specs.Steps.{then_limit}
use Rattle.rules.specs.Unique.{emptied, replaced, remove_unique, change_unique, prototype_unique}
use Rattle.rules.specs.Unique.{inserted, changed, removed, rebased}
use Rattle.rules.specs.Calls.{unheld}
use Rattle.theorems.specs.Facts.{Used, Sound}
use Rattle.theorems.specs.Child.{Legal}
use Rattle.theorems.specs.Made.{SharedAt, entries_at}
use Rattle.theorems.specs.Outcomes.{Outcome, by_insert, by_change, removal_steps, change_steps}
use Rattle.theorems.specs.Changes.{MayAct, ChangesTo, may_act, root-gives, unique-gives, inserted-gives}
use Rattle.theorems.specs.Changes.{changed-gives, removed-gives, rebased-gives}
use Rattle.plan.specs.PlanRight.{LegalSteps}
use Rattle.plan.specs.HeldResult.{unheld-fresh, held-limited}
use Rattle.shared_shape.specs.Transition.{one_step_is}
use Rattle.shared_shape.specs.Replays.{removal_legal, removal_is, change_legal, change_is, configure_legal}
use Rattle.shared_shape.specs.Replays.{configure_is}
use Rattle.shape.specs.FullHolds.{holds_given, same_number}
use Rattle.shape.specs.States.{change_of_unique, removal_of_unique}
use Rattle.shape.specs.States.{prototype_of_unique, insert_of_shared, change_of_shared}
use Rattle.shape.specs.States.{removal_of_shared, prototype_of_shared, is_shared_lem, insert_legal}
use Rattle.shape.specs.States.{prototype_legal}

-- A result with all its holds was there before, and nothing has been written.
abbrev Unwritten : Model → Got Placed → Type 0
Unwritten m rule = (y : Placed) → rule ≡ ok y → 65535 ≤ holds_given y → y.0 ≡ m

-- What a hold for the rule's result asks.
pub record Grantable (m : Model) (rule : Got Placed) : Type 0 where
  pub in_use : (y : Placed) → rule ≡ ok y → Used y.0 y.1
  pub unwritten : Unwritten m rule

-- ## New shapes

-- A new shape has no holds yet.
new_unwritten : (m j : Model) (shape : ℕ → Shape) (es : List Entry) → ((t : ℕ) → (shape t).holds ≡ 0)
    → Unwritten m (fresh j shape es)
new_unwritten m j shape es none y e full = absurd (omega (arith, unheld-fresh j shape es none y e, full))

module _ (m : Model) (sound : Sound m) where
  pub root_grantable : Grantable m (fresh m root_shape [])
  root_grantable =
      record {
        in_use = λ y e. (root-gives m sound y e).0.is_used;
        unwritten = new_unwritten m m root_shape [] (λ t. refl);
      }

  pub unique_grantable : Grantable m (fresh m (unique_shape 0 0 0) [])
  unique_grantable =
      record {
        in_use = λ y e. (unique-gives m sound y e).0.is_used;
        unwritten = new_unwritten m m (unique_shape 0 0 0) [] (λ t. refl);
      }

-- ## A shape in either state

module _ (m : Model) (sound : Sound m) (n : ℕ) (may : unheld m n ≡ false) where
  abbrev es : List Entry
  es = entries_at m n

  acts : MayAct m n
  acts = may_act m sound n may

  either_state : {rule : Got Placed} → (unique (shape_at m n) ≡ true → Unwritten m rule)
      → (unique (shape_at m n) ≡ false → Unwritten m rule) → Unwritten m rule
  either_state {rule} of_unique of_shared = go (either (unique (shape_at m n)))
    where
      go : Decided (unique (shape_at m n)) → Unwritten m rule
      go (inl r) = of_unique r
      go (inr r) = of_shared r

  -- A change that acts on the same number: its holds are looked at before, and it has room for one more.
  same_unwritten : {rule : Got Placed} {o : Outcome} → leb 65535 (shape_at m n).holds ≡ false
      → ((y : Placed) → rule ≡ ok y → ChangesTo m n o y × (y.1 ≡ n)) → Unwritten m rule
  same_unwritten few gives y e full =
      let (c, at) = gives y e in
      absurd (omega (arith, same_number sound c at, leb-false 65535 (shape_at m n).holds few, full))

  steps_unwritten : (ts : List Step) (from : ℕ) → LegalSteps ts m from
      → Unwritten m (then_limit (steps ts m from))
  steps_unwritten ts from legal y e full =
      held-limited ts m sound from legal y e (λ none. omega (arith, none, full))

  step_unwritten : (t : Step) → Legal m n t → Unwritten m (then_limit (step m n t))
  step_unwritten t legal =
      rw (← one_step_is m n t) (steps_unwritten (t ∷ []) n (legal, λ y e. tt))

  replaced_unwritten : (q p : ℕ) (fs : List Entry) → Unwritten m (replaced (emptied m n q) p fs)
  replaced_unwritten q p fs = new_unwritten m (emptied m n q) (unique_shape 0 (length fs) p) fs (λ t. refl)

  module _ (k : ℕ) where
    module _ (a : ℕ) (good : good_key k ≡ true) (low : a ≤ most_stored) where
      pub insert_grantable : has k es ≡ false
          → (unique (shape_at m n) && leb 65535 (shape_at m n).holds) ≡ false → Grantable m (inserted m n k a)
      insert_grantable absent room =
          record {
            in_use = λ y e. (gives y e).gives.is_used;
            unwritten =
                either_state
                (λ r. same_unwritten (rw r at room) (λ y e. (gives y e, ((gives y e).of_unique r).1)))
                (λ r. rw (insert_of_shared m n r k a)
                (step_unwritten (insert k a) (insert_legal m n r sound may good low absent)));
          }
        where
          gives : (y : Placed) → inserted m n k a ≡ ok y → ChangesTo m n (by_insert m n k a) y
          gives = inserted-gives m sound n acts k a good (le-leb a most_stored low) absent

      pub change_grantable : has k es ≡ true
          → (unique (shape_at m n) && same_width (attributes_in k es) a && leb 65535 (shape_at m n).holds) ≡ false
          → Grantable m (changed m n k a)
      unfolding change_unique
      change_grantable holds room =
          record {
            in_use = λ y e. (gives y e).gives.is_used;
            unwritten = go (either (same_width (attributes_in k es) a));
          }
        where
          gives : (y : Placed) → changed m n k a ≡ ok y → ChangesTo m n (by_change m n k a) y
          gives = changed-gives m sound n acts k a good (le-leb a most_stored low) holds

          go : Decided (same_width (attributes_in k es) a) → Unwritten m (changed m n k a)
          go (inl wide) =
              either_state
              (λ r. same_unwritten (rw (r, wide) at room) (λ y e. (gives y e, rw wide at ((gives y e).of_unique r).1)))
              (λ r.
              let h = is_shared_lem m n r sound may in
              rw (change_of_shared m n r k a, ← configure_is m sound n k h holds a wide)
              (step_unwritten (configure k a) (configure_legal m sound n k h holds a wide acts.below good low)))
          go (inr wide) =
              either_state
              (λ r. rw (change_of_unique m n r k a, wide)
              (replaced_unwritten 0 (shape_at m n).prototype (laid 0 (configured es k a))))
              (λ r.
              let h = is_shared_lem m n r sound may in
              rw (change_of_shared m n r k a, ← change_is m sound n k h holds refl low refl wide)
              (steps_unwritten (change_steps m n k a) (rollback m n k).base (change_legal m sound n k h holds refl low refl)))

    pub removal_grantable : (SharedAt m n → has k es ≡ true) → Grantable m (removed m n k)
    unfolding remove_unique
    removal_grantable holds =
        record {
          in_use = λ y e. (removed-gives m sound n acts k holds y e).gives.is_used;
          unwritten = either_state (λ r. of_unique r (either (has k es))) (λ r.
              let h = is_shared_lem m n r sound may in
              rw (removal_of_shared m n r k, ← removal_is m sound n k h (holds h) refl refl)
              (steps_unwritten (removal_steps m n k) (rollback m n k).base (removal_legal m sound n k h (holds h) refl refl)));
        }
      where
        of_unique : unique (shape_at m n) ≡ true → Decided (has k es) → Unwritten m (removed m n k)
        of_unique r (inl q) =
            rw (removal_of_unique m n r k, q)
            (replaced_unwritten 0 (shape_at m n).prototype (laid 0 (without es k)))
        of_unique r (inr q) =
            λ y e full. ap (λ (z : Placed). z.0) (sym (same_given (rw (removal_of_unique m n r k, q) at e)))

  pub prototype_grantable : (p : ℕ) → Grantable m (rebased m n p)
  unfolding prototype_unique
  prototype_grantable p =
      record {
        in_use = λ y e. (rebased-gives m sound n acts p y e).gives.is_used;
        unwritten =
            either_state
            (λ r. rw (prototype_of_unique m n r p) (replaced_unwritten (shape_at m n).prototype p es))
            (λ r. rw (prototype_of_shared m n r p)
            (step_unwritten (prototype p) (prototype_legal m n r sound may p)));
      }
