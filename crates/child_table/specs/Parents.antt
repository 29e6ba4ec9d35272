-- What a step asks of the table of the shape it starts from, and the child's table as code makes it.
-- Assumes nothing.
use Rattle.std.specs.Prelude.{true, false, List, ◌≢◌, ◌≡◌, ℕ, ◌≤◌, ◌<◌, length, Ok, Some}
use Rattle.std.proofs.Common.{true≢false, ◌∙◌, ap, arith, get_or-take, length-take-le}
use Rattle.std.proofs.Math.Path.{refl, sym}
use borrow.Author.Tests.{eq-eqb, ne_eqb, le-leb, not-true}
use Rattle.std.proofs.Math.Seq.{take_all}
use Rattle.slot.specs.Attributes.{most_stored}
use Rattle.slot.specs.declared.KeyPosition.{KeyPosition}
use Rattle.store.specs.Lists.{lowest}
use Rattle.store.specs.Model.{Table, Model, free, used, no_entry, free_table, table_at, put_table}
use Rattle.store.specs.Layout.{parse}
use Rattle.store.specs.Image.{Formed, Place, unchanged}
use Rattle.store.specs.ListLaws.{and_both, not-both}
use Rattle.store.specs.declared.Shape.{Shape}
use Rattle.store.specs.declared.Entry.{Entry}
use Rattle.rules.specs.declared.Refusal.TheVariants.{TablesFull}
use Rattle.rules.specs.Shapes.{has, appended, configured, laid, table_of, entries}
use Rattle.rules.specs.Refusals.{Got, ok, place}
use Rattle.rules.specs.Placing.{Passes, Places}
use Rattle.rules.specs.Steps.{Step, insert, configure, prototype, edge_attributes, may_step, added, Placed}
use Rattle.rules.specs.Steps.{copy_to, child_table}
use Rattle.rules.specs.Sound.{distinct}
use Rattle.rules.specs.InUse.{used_table_inside}
use Rattle.theorems.specs.Facts.{GoodTable}
use Rattle.theorems.specs.Entries.{keys, good_keys, attributes_take}
use Rattle.theorems.specs.Taken.{bind_passed, place-passed, place-lowest}
use Rattle.key_position.specs.Positions.{position_of, Stands, stands_at}
use Rattle.property_table.specs.Slotted.{Slotted, good_slotted}
use Rattle.property_table.specs.Copies.{Apart}
use Rattle.property_table.specs.OneKey.{key_at, configured-laid}

-- The step t may be taken from the shape s, as far as its table goes.
pub record Parent (m : Model) (s : Shape) (t : Step) : Type 0 where
  pub in_use : free_table (table_at m s.table) ≡ false
  pub good : GoodTable m.K (table_of m s)
  pub fits : s.properties ≤ length (table_of m s)
  pub room : added t ≡ 1 → s.properties ≢ m.K
  pub may : may_step t (entries m s) ≡ true
  pub low : edge_attributes t ≤ most_stored

-- ## A copy

-- A rule copies the entries es, and gives the table at `to`, which was free.
pub record Copies (m : Model) (g : Got Placed) (es : List Entry) (to : ℕ) : Type 0 where
  pub target : Place (length m.tables) to
  pub is_free : table_at m to ≡ free
  pub gave : g ≡ ok (put_table m to (used es), to)

is_free_lem : (t : Table) → free_table t ≡ true → t ≡ free
is_free_lem free e = refl
is_free_lem (used es) e = absurd (true≢false (sym e))

copy : {m : Model} {g : Got Placed} {es : List Entry} {to : ℕ} → g ≡ copy_to m es → Passes g
    → to ≡ lowest free_table 1 m.tables → Copies m g es to
unfolding table_at
copy {m} {g} {es} {to} rule (y, e) its =
    let b = bind_passed (place TablesFull free_table m.tables) _ y (sym rule ∙ e) in
    let low = place-lowest TablesFull free_table m.tables b.result b.gave in
    let same : b.result ≡ to = low ∙ sym its in
    let p = place-passed TablesFull free_table free m.tables to (rw same at b.gave) in
    record {
      target = record { low = p.low; high = p.high };
      is_free = is_free_lem (table_at m to) p.was_free;
      gave = e ∙ rw same at (sym b.below);
    }

module _ {m : Model} {s : Shape} {t : Step} (p : Parent m s t) where
  pub its-place : Place (length m.tables) s.table
  its-place = used_table_inside m s.table p.in_use

  pub its_slots : Slotted (table_of m s)
  its_slots = good_slotted (table_of m s) p.good.good

  pub keys_differ : distinct (keys (table_of m s)) ≡ true
  keys_differ = (good_keys (table_of m s) p.good.good).differ

  pub apart : {g : Got Placed} {es : List Entry} {to : ℕ} → Copies m g es to → Apart m s.table to
  apart c =
      record {
        source = its-place;
        target = c.target;
        differ = λ e. not-both (rw (e, c.is_free)) p.in_use;
        slotted = its_slots;
      }

-- ## Insert

module _ {m : Model} {s : Shape} {k a : ℕ} (p : Parent m s (insert k a)) where
  -- A table with no other entries has room, and lacks the key that the shape lacks.
  module _ (whole : s.properties ≡ length (table_of m s)) where
    pub has_room : length (table_of m s) < m.K
    has_room =
        let few = p.good.room in
        let full : length (table_of m s) ≢ m.K = λ e. p.room refl (whole ∙ e) in
        omega arith

    pub appends : child_table m s (insert k a)
        ≡ ok (put_table m s.table (used (appended (table_of m s) k a)), s.table)
    unfolding child_table
    appends =
        let none = not-true (has k (entries m s)) p.may in
        let all = take_all s.properties (table_of m s) (omega arith) in
        rw (eq-eqb s.properties (length (table_of m s)) whole, rw all at none)

  -- Otherwise the shape's own entries are copied.
  module _ {count : ℕ} (all : count ≡ length (table_of m s)) (other : s.properties ≢ count) where
    pub has_fewer : s.properties < length (table_of m s)
    has_fewer = let fits = p.fits in omega arith

    pub insert_copies : {to : ℕ} → Passes (child_table m s (insert k a)) → to ≡ lowest free_table 1 m.tables
        → Copies m (child_table m s (insert k a)) (appended (entries m s) k a) to
    unfolding child_table
    insert_copies = copy (rw (ne_eqb s.properties (length (table_of m s)) (λ e. other (e ∙ sym all))))

-- ## Configure

module _ {m : Model} {s : Shape} {k a : ℕ} (p : Parent m s (configure k a)) where
  pub is_held : has k (entries m s) ≡ true
  is_held = (and_both (has k (entries m s)) p.may).0

  pub configure_copies : {to : ℕ} → Passes (child_table m s (configure k a))
      → to ≡ lowest free_table 1 m.tables
      → Copies m (child_table m s (configure k a)) (configured (table_of m s) k a) to
  unfolding child_table
  configure_copies = copy refl

  module _ {position : KeyPosition} (its : Some position ≡ position_of k (entries m s)) where
    abbrev i : ℕ
    i = position.0

    held : Stands k (entries m s) i
    held = stands_at k (entries m s) (sym its)

    inside : i < s.properties
    inside = omega (arith, held.inside, length-take-le s.properties (table_of m s) p.fits)

    pub position_inside : i < length (table_of m s)
    position_inside = omega (arith, inside, p.fits)

    -- At equal width the slots stay as they are.
    pub changed : laid 0 (configured (table_of m s) (key_at (table_of m s) i) a) ≡ configured (table_of m s) k a
    changed =
        let es = table_of m s in
        let first = get_or-take s.properties es i no_entry inside in
        let same : key_at es i ≡ k = ap (λ (e : Entry). e.key) (sym first) ∙ held.key in
        let wide = (and_both (has k (entries m s)) p.may).1 in
        let all = rw (attributes_take k s.properties es is_held) at wide in
        rw same (configured-laid k a es p.good.good (le-leb a most_stored p.low) all)

-- ## Prototype

pub shares : {ws : List ℕ} (s : Shape) {t : Step} {p : ℕ} → t ≡ prototype p → Formed ws
    → Places ws ws (child_table (parse ws) s t) (Ok s.table)
unfolding child_table
shares s e f = rw e (unchanged f, refl)
