-- What a lookup answers, and what the answer says.
-- Assumes nothing.
use Rattle.std.specs.Prelude.{Bool, List, ◌≡◌, refl, ℕ, ◌≤◌, ◌<◌, length, get_or, take, is_some, None, Option, Some}
use Rattle.std.proofs.Common.{sym, ◌∙◌, arith, get_or-take, length-take-le}
use Rattle.slot.specs.declared.KeyPosition.{KeyPosition}
use Rattle.store.specs.Model.{no_entry}
use Rattle.store.specs.declared.Entry.{Entry}
use Rattle.rules.specs.Shapes.{has, attributes_in}
use Rattle.key_position.specs.Positions.{position_of, Stands, Absent, stands_at, stands_nowhere}
use Rattle.property_table.specs.Slotted.{slot_in}
use Rattle.property_table.specs.declared.Property.{Property}

abbrev pub property_at : List Entry → KeyPosition → Property
property_at es p = record { position = p; slot = slot_in (get_or es p.0 no_entry) }

abbrev property_if : List Entry → Option KeyPosition → Option Property
property_if es (Some p) = Some (property_at es p)
property_if es None = None

-- "Lookup answers the slot or Nothing": of the first entry with that key.
abbrev pub looked_up : (key : ℕ) → List Entry → Option Property
looked_up k es = property_if es (position_of k es)

-- ## A lookup among the first n

module _ (k : ℕ) (es : List Entry) {n : ℕ} (inside : n ≤ length es) {p : KeyPosition}
    (its : position_of k (take n es) ≡ Some p) where
  pub position_inside : p.0 < n
  position_inside = omega (arith, (stands_at k (take n es) its).inside, length-take-le n es inside)

  pub property_found : {r : Property} → r ≡ property_at es p → Some r ≡ looked_up k (take n es)
  property_found read = rw (its, get_or-take n es p.0 no_entry position_inside, read)

pub property_absent : (k : ℕ) (es : List Entry) → position_of k es ≡ None → None ≡ looked_up k es
property_absent k es its = rw its

-- ## What the answer says

looked_at : (k : ℕ) (es : List Entry) {p : Property} → looked_up k es ≡ Some p
    → (position_of k es ≡ Some p.position) × (p.slot ≡ slot_in (get_or es p.position.0 no_entry))
looked_at k es {p} looked = go (position_of k es) refl looked
  where
    go : (r : Option KeyPosition) → position_of k es ≡ r → property_if es r ≡ Some p
        → (position_of k es ≡ Some p.position) × (p.slot ≡ slot_in (get_or es p.position.0 no_entry))
    go (Some at) its e =
        let same : property_at es at ≡ p = cc in
        rw (← same) (its, refl)
    go None its e = absurd (let z : ◌≡◌ {A = ℕ} 0 1 = cc in omega arith)

pub looked_held : {k : ℕ} {es : List Entry} {p : Property} → looked_up k es ≡ Some p → Stands k es p.position.0
looked_held {k} {es} looked = stands_at k es (looked_at k es looked).0

module _ (k : ℕ) (es : List Entry) {p : Property} (looked : looked_up k es ≡ Some p) where
  pub looked_slot : p.slot ≡ slot_in (get_or es p.position.0 no_entry)
  looked_slot = (looked_at k es looked).1

  pub looked_attributes : attributes_in k es ≡ p.slot.attributes.0
  looked_attributes = rw looked_slot (looked_held {k = k} {es = es} looked).attributes

pub looked_absent : {k : ℕ} {es : List Entry} → looked_up k es ≡ None → Absent k es
looked_absent {k} {es} looked = go (position_of k es) refl looked
  where
    go : (r : Option KeyPosition) → position_of k es ≡ r → property_if es r ≡ None → Absent k es
    go (Some at) its e = absurd (let z : ◌≡◌ {A = ℕ} 0 1 = cc in omega arith)
    go None its e = stands_nowhere k es its

-- Whether anything is found.
pub found_has : (k : ℕ) (es : List Entry) {r : Option Property} {b : Bool} → r ≡ looked_up k es → b ≡ is_some r
    → b ≡ has k es
found_has k es {r = Some p} its test = test ∙ sym (looked_held {k = k} {es = es} (sym its)).held
found_has k es {r = None} its test = test ∙ sym (looked_absent {k = k} {es = es} (sym its)).held
