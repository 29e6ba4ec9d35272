-- The four changes as calls: where one answers, its tests have passed and its rule has given a result, which
-- is held.
-- Assumes nothing.
use Rattle.std.proofs.Math.Bool.{true, not}
use Rattle.std.specs.Prelude.{◌&&◌, List, [], ◌∷◌, ◌++◌, ◌≢◌, ◌≡◌, ℕ}
use Rattle.std.proofs.Math.Path.{refl}
use borrow.Author.Tests.{not-false}
use Rattle.slot.specs.Attributes.{good_attributes}
use Rattle.store.specs.Model.{Model, shape_at}
use Rattle.store.specs.declared.Entry.{Entry}
use Rattle.rules.specs.declared.Refusal.TheVariants.{BadKey, BadAttributes, NoShape, Present, Absent}
use Rattle.rules.specs.Numbers.{good_key}
use Rattle.rules.specs.Shapes.{has, attributes_in, without, shared}
use Rattle.rules.specs.Refusals.{Got, ok, ◌>>=◌}
use Rattle.rules.proofs.Settled.{guard_passed}
use Rattle.rules.specs.Steps.{insert, Placed}
use Rattle.rules.specs.Unique.{inserted, changed, removed, rebased}
use Rattle.rules.specs.Calls.{insert_key, change_key, remove_key, change_prototype, Answer, unheld, grant}
use Rattle.rules.specs.Calls.{perform}
use Rattle.theorems.specs.Facts.{Sound}
use Rattle.theorems.specs.Entries.{keys}
use Rattle.theorems.specs.Taken.{bind_passed}
use Rattle.theorems.specs.Made.{SharedAt, entries_at}
use Rattle.theorems.specs.Keys.{keys_stepped}
use Rattle.theorems.specs.Outcomes.{Outcome, by_insert, by_change, by_removal, by_prototype}
use Rattle.theorems.specs.OutcomeKeys.{change-keys, change_attributes, removal-keys}
use Rattle.theorems.specs.Changes.{ChangesTo, MayAct, may_act, inserted-gives, changed-gives}
use Rattle.theorems.specs.Changes.{removed-gives, rebased-gives}

-- A change of the shape at n, which was held, has led to the outcome o with the keys ks, and a hold of the
-- result is granted.
pub record Granting (m : Model) (n : ℕ) (o : Outcome) (ks : List ℕ) (y : Model × Answer) : Type 0 where
  pub was_held : (shape_at m n).holds ≢ 0
  pub result : Placed
  pub changes : ChangesTo m n o result
  pub its_keys : keys o.entries ≡ ks
  pub grants : grant o.action result ≡ ok y

granting : {m : Model} {n : ℕ} {ks : List ℕ} → MayAct m n → (o : Outcome) → keys o.entries ≡ ks
    → (rule : Got Placed) → ((x : Placed) → rule ≡ ok x → ChangesTo m n o x)
    → (y : Model × Answer) → (rule >>= grant o.action) ≡ ok y → Granting m n o ks y
granting may o order rule leads y e =
    let b = bind_passed rule (grant o.action) y e in
    record {
      was_held = may.is_held;
      result = b.result;
      changes = leads b.result b.gave;
      its_keys = order;
      grants = b.below;
    }

module _ (m : Model) (sound : Sound m) (n : ℕ) where
  abbrev es : List Entry
  es = entries_at m n

  pub insert_grants : (k a : ℕ) (y : Model × Answer) → perform m (insert_key n k a) ≡ ok y
      → Granting m n (by_insert m n k a) (keys es ++ k ∷ []) y
  unfolding perform
  insert_grants k a y e =
      let (key, e₁) = guard_passed BadKey (not (good_key k)) _ y e in
      let (low, e₂) = guard_passed BadAttributes (not (good_attributes a)) _ y e₁ in
      let (is_held, e₃) = guard_passed NoShape (unheld m n) _ y e₂ in
      let (absent, e₄) = guard_passed Present (has k es) _ y e₃ in
      let may = may_act m sound n is_held in
      granting may (by_insert m n k a) (keys_stepped (insert k a) es) (inserted m n k a)
      (inserted-gives m sound n may k a (not-false _ key) (not-false _ low) absent) y e₄

  pub change-grants : (k a : ℕ) (y : Model × Answer) → perform m (change_key n k a) ≡ ok y
      → Granting m n (by_change m n k a) (keys es) y × (attributes_in k (by_change m n k a).entries ≡ a)
  unfolding perform
  change-grants k a y e =
      let (key, e₁) = guard_passed BadKey (not (good_key k)) _ y e in
      let (low, e₂) = guard_passed BadAttributes (not (good_attributes a)) _ y e₁ in
      let (is_held, e₃) = guard_passed NoShape (unheld m n) _ y e₂ in
      let (there, e₄) = guard_passed Absent (not (has k es)) _ y e₃ in
      let may = may_act m sound n is_held in
      let few = not-false (good_attributes a) low in
      let holds = not-false (has k es) there in
      let order = change-keys m sound n k may.is_used a few holds in (
        granting may (by_change m n k a) order (changed m n k a)
            (changed-gives m sound n may k a (not-false _ key) few holds) y e₄,
        change_attributes m sound n k may.is_used a few holds,
      )

  pub removal-grants : (k : ℕ) (y : Model × Answer) → perform m (remove_key n k) ≡ ok y
      → Granting m n (by_removal m n k) (keys (without es k)) y
  unfolding perform
  removal-grants k y e =
      let (key, e₁) = guard_passed BadKey (not (good_key k)) _ y e in
      let (is_held, e₂) = guard_passed NoShape (unheld m n) _ y e₁ in
      let (there, e₃) = guard_passed Absent (shared (shape_at m n) && not (has k es)) _ y e₂ in
      let may = may_act m sound n is_held in
      let holds : SharedAt m n → has k es ≡ true = λ h. not-false (has k es) (rw h at there) in
      let order = removal-keys m sound n k may.is_used holds in
      granting may (by_removal m n k) order (removed m n k) (removed-gives m sound n may k holds) y e₃

  pub prototype_grants : (p : ℕ) (y : Model × Answer) → perform m (change_prototype n p) ≡ ok y
      → Granting m n (by_prototype m n p) (keys es) y
  unfolding perform
  prototype_grants p y e =
      let (is_held, e₁) = guard_passed NoShape (unheld m n) _ y e in
      let may = may_act m sound n is_held in
      granting may (by_prototype m n p) refl (rebased m n p) (rebased-gives m sound n may p) y e₁
