-- A unique shape that acts on its own number and has all its holds: what the calls refuse before they write.
-- Assumes nothing.
use Rattle.std.specs.Prelude.{true, false, List, ◌≡◌, refl, ℕ, ◌≤◌, eqb, leb}
use Rattle.std.proofs.Common.{inl, inr, sym, ap, ◌∙◌, le-leb}
use Rattle.std.specs.Prelude.{if◌then◌else◌}
use Rattle.slot.specs.Attributes.{most_stored, same_width}
use Rattle.store.specs.Model.{Model, shape_at}
use Rattle.store.specs.Layout.{parse}
use Rattle.store.specs.ListLaws.{Decided, either}
use Rattle.store.specs.declared.Shape.{Shape}
use Rattle.rules.specs.declared.ChangeTransitionAction.{ChangeTransitionAction}
use Rattle.rules.specs.declared.Refusal.{Refusal}
use Rattle.rules.specs.declared.Refusal.TheVariants.{KeysFull, HoldsFull}
use Rattle.rules.specs.Numbers.{good_key}
use Rattle.rules.specs.Shapes.{has, attributes_in, unique}
use Rattle.rules.specs.Refusals.{Got, ok, refused}
use Rattle.rules.specs.Steps.{Placed}
use Rattle.rules.specs.Unique.{insert_unique, change_unique, inserted, changed}
use Rattle.rules.specs.Placing.{Passes}
use Rattle.rules.specs.Calls.{No, unheld, then_grant}
use Rattle.rules.specs.Replies.{Answers}
use Rattle.theorems.specs.Facts.{Sound}
use Rattle.theorems.specs.Made.{entries_at}
use Rattle.theorems.specs.Quiet.{holds_at, raw_holds}
use Rattle.theorems.specs.Outcomes.{Outcome, by_insert, by_change}
use Rattle.theorems.specs.Changes.{ChangesTo, may_act, inserted-gives, changed-gives}

-- The table's order: "KeysFull" comes before "HoldsFull".
abbrev pub full_refusal : Model → ℕ → Refusal
full_refusal m n = if eqb (shape_at m n).properties m.K then KeysFull else HoldsFull

-- The holds of what a rule gives.
abbrev pub holds_given : Placed → ℕ
holds_given y = (shape_at y.0 y.1).holds

-- A change that acts on the same number leaves it its holds.
pub same_number : {m : Model} (sound : Sound m) {n : ℕ} {o : Outcome} {y : Placed} → ChangesTo m n o y
    → y.1 ≡ n → holds_given y ≡ (shape_at m n).holds
same_number {m} sound {n} {o} {y} c at =
    sym (raw_holds y.0 c.gives.keeps.is_sound y.1)
    ∙ ap (holds_at y.0) at
    ∙ c.gives.same_holds n
    ∙ raw_holds m sound n

module _ (ws : List ℕ) (sound : Sound (parse ws)) (n : ℕ) (may : unheld (parse ws) n ≡ false)
    (is_unique : unique (shape_at (parse ws) n) ≡ true)
    (full : leb 65535 (shape_at (parse ws) n).holds ≡ true)
    (k a : ℕ) (good : good_key k ≡ true) (low : a ≤ most_stored) where
  abbrev m : Model
  m = parse ws

  abbrev s : Shape
  s = shape_at (parse ws) n

  result_full : {rule : Got Placed} {o : Outcome} (action : ChangeTransitionAction)
      → ((y : Placed) → rule ≡ ok y → ChangesTo m n o y × (y.1 ≡ n)) → Passes rule
      → Answers ws ws (then_grant action rule) (No HoldsFull)
  result_full action gives (y, e) =
      let (c, at) = gives y e in
      rw (e, same_number sound c at, full) (refl, refl)

  keys-full : eqb s.properties m.K ≡ true → inserted m n k a ≡ refused KeysFull
  unfolding inserted insert_unique
  keys-full most = rw (is_unique, most)

  keys_fit : eqb s.properties m.K ≡ false → Passes (inserted m n k a)
  unfolding inserted insert_unique
  keys_fit few = rw (is_unique, few) (_, refl)

  pub insert_full : has k (entries_at m n) ≡ false → (action : ChangeTransitionAction)
      → Answers ws ws (then_grant action (inserted m n k a)) (No (full_refusal m n))
  insert_full absent action = go (either (eqb s.properties m.K))
    where
      gives : (y : Placed) → inserted m n k a ≡ ok y → ChangesTo m n (by_insert m n k a) y × (y.1 ≡ n)
      gives y e =
          let c = inserted-gives m sound n (may_act m sound n may) k a good (le-leb a most_stored low) absent y e in
          (c, (c.of_unique is_unique).1)

      go : Decided (eqb s.properties m.K)
          → Answers ws ws (then_grant action (inserted m n k a)) (No (full_refusal m n))
      go (inl most) = rw (keys-full most, most) (refl, refl)
      go (inr few) = rw few (result_full action gives (keys_fit few))

  change-passes : same_width (attributes_in k (entries_at m n)) a ≡ true → Passes (changed m n k a)
  unfolding changed change_unique
  change-passes wide = rw (is_unique, wide) (_, refl)

  pub change-full : has k (entries_at m n) ≡ true → same_width (attributes_in k (entries_at m n)) a ≡ true
      → (action : ChangeTransitionAction)
      → Answers ws ws (then_grant action (changed m n k a)) (No HoldsFull)
  change-full held wide action = result_full action gives (change-passes wide)
    where
      gives : (y : Placed) → changed m n k a ≡ ok y → ChangesTo m n (by_change m n k a) y × (y.1 ≡ n)
      gives y e =
          let c = changed-gives m sound n (may_act m sound n may) k a good (le-leb a most_stored low) held y e in
          (c, rw wide at (c.of_unique is_unique).1)
