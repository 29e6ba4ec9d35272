-- The calls' refusals in the table's order, and what is left of a call that meets none.
-- Assumes nothing.
use Rattle.std.specs.Prelude.{Bool, true, false, ◌&&◌, not, List, [], ◌≡◌, ℕ, ◌≤◌}
use Rattle.std.proofs.Math.Path.{refl}
use borrow.Author.Tests.{le-leb, not-false}
use Rattle.slot.specs.Attributes.{most_stored}
use Rattle.store.specs.Model.{Model, shape_at}
use Rattle.store.specs.Layout.{parse}
use Rattle.rules.specs.declared.ChangeTransitionAction.TheVariants.{Nothing}
use Rattle.rules.specs.Numbers.{good_key}
use Rattle.rules.specs.Shapes.{has, attributes_in, shared, unique, root_shape, unique_shape}
use Rattle.rules.specs.Steps.{fresh}
use Rattle.rules.specs.Unique.{changed, removed, rebased}
use Rattle.rules.specs.Calls.{new_root, new_unique, change_key, remove_key, change_prototype, unheld}
use Rattle.rules.specs.Calls.{then_grant, action_for, perform}
use Rattle.theorems.specs.Facts.{Sound, shared-or-unique}
use Rattle.theorems.specs.Made.{SharedAt, entries_at}
use Rattle.theorems.specs.Changes.{may_act}

-- A new shape is refused for lack of room alone.
module _ (m : Model) where
  pub root_is : perform m new_root ≡ then_grant Nothing (fresh m root_shape [])
  unfolding perform
  root_is = refl

  pub unique_is : perform m new_unique ≡ then_grant Nothing (fresh m (unique_shape 0 0 0) [])
  unfolding perform
  unique_is = refl

module _ (ws : List ℕ) (n : ℕ) where
  abbrev m : Model
  m = parse ws

  -- ## Insert and change

  module _ (k a : ℕ) where
    module _ (good : good_key k ≡ true) where
      module _ (low : a ≤ most_stored) (may : unheld m n ≡ false) where
        pub change_is : has k (entries_at m n) ≡ true
            → perform m (change_key n k a)
            ≡ then_grant (action_for (attributes_in k (entries_at m n)) a) (changed m n k a)
        unfolding perform
        change_is held = rw (good, le-leb a most_stored low, may, held)

  -- ## Removal

  module _ (k : ℕ) where
    module _ (good : good_key k ≡ true) where
      module _ (sound : Sound m) (may : unheld m n ≡ false) {u h : Bool}
          (kind : u ≡ unique (shape_at m n)) (its : h ≡ has k (entries_at m n)) where
        in_a_state : shared (shape_at m n) ≡ not (unique (shape_at m n))
        in_a_state = shared-or-unique (sound.shapes n (may_act m sound n may).is_used).words

        module _ (test : (not u && not h) ≡ false) where
          pub removal_is : perform m (remove_key n k) ≡ then_grant Nothing (removed m n k)
          unfolding perform
          removal_is = rw (good, may, in_a_state, ← kind, ← its, test)

          pub held_if_shared : SharedAt m n → has k (entries_at m n) ≡ true
          held_if_shared is_shared =
              not-false (has k (entries_at m n)) (rw (kind, its, ← in_a_state, is_shared) at test)

  -- ## Prototype

  module _ (p : ℕ) where
    pub prototype_is : unheld m n ≡ false
        → perform m (change_prototype n p) ≡ then_grant Nothing (rebased m n p)
    unfolding perform
    prototype_is may = rw may
