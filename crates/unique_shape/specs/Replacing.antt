-- A unique shape that is replaced: its keys are copied first and its table emptied after, which leaves what
-- the rule says.
-- Assumes nothing.
use Rattle.std.specs.Prelude.{List, [], ◌≢◌, ◌≡◌, ℕ, ◌≤◌, ◌<◌, length}
use Rattle.std.proofs.Common.{sym}
use Rattle.slot.specs.Attributes.{most_stored}
use Rattle.store.specs.Model.{Table, Model, used, free, no_shape, free_shape, free_table, shape_at, table_at}
use Rattle.store.specs.Model.{put_shape, put_table}
use Rattle.store.specs.PlaceLaws.{put-put, lowest-put}
use Rattle.store.specs.Layout.{parse}
use Rattle.store.specs.Image.{Place, Becomes, and_then}
use Rattle.store.specs.Tables.{table-put}
use Rattle.store.specs.declared.Shape.{Shape}
use Rattle.store.specs.declared.Entry.{Entry}
use Rattle.rules.specs.Shapes.{configured, without, laid, unique_shape}
use Rattle.rules.specs.Unique.{emptied}
use Rattle.theorems.specs.Facts.{Used, Sound}
use Rattle.property_table.specs.Copies.{entries_in}
use Rattle.property_table.specs.OneKey.{key_at}
use Rattle.fresh.specs.declared.FreePlaces.{FreePlaces}
use Rattle.fresh.specs.Room.{free_room, Room}
use Rattle.unique_shape.specs.declared.KeyCopy.{KeyCopy}
use Rattle.unique_shape.specs.declared.KeyCopy.TheVariants.{All, Without, Changed}

-- ## The keys

-- "a new shape with all slots worked out"
abbrev pub keys_copied : KeyCopy → List Entry → List Entry
keys_copied All es = es
keys_copied (Without p) es = laid 0 (without es (key_at es p.0))
keys_copied (Changed k) es = laid 0 (configured es (key_at es k.position.0) k.attributes.0)

abbrev pub CanCopy : KeyCopy → List Entry → Type 0
CanCopy All es = Unit {0}
CanCopy (Without p) es = p.0 < length es
CanCopy (Changed k) es = (k.position.0 < length es) × (k.attributes.0 ≤ most_stored)

-- ## The two shapes

-- The places of the old shape and its table, and those of the new one.
pub record InPlace (m : Model) (n : ℕ) (new : FreePlaces) : Type 0 where
  pub old_shape : Place (length m.shapes) n
  pub old_table : Place (length m.tables) (shape_at m n).table
  pub new_shape : Place (length m.shapes) new.shape
  pub new_table : Place (length m.tables) new.table

pub table-place : {m : Model} {n : ℕ} {new : FreePlaces} {s : Shape} → InPlace m n new → s ≡ shape_at m n
    → Place (length m.tables) s.table
table-place places read = rw read places.old_table

-- The old one is emptied, then the new one written.
pub handed_over : {before b c after : List ℕ} (n kept new : ℕ) (x : Shape) {s : Shape}
    → s ≡ shape_at (parse before) n
    → Becomes before b (put_table (parse before) s.table (used []))
    → Becomes b c (put_shape (parse b) n (unique_shape s.holds 0 kept s.table))
    → Becomes c after (put_shape (parse c) new x)
    → Becomes before after (put_shape (emptied (parse before) n kept) new x)
unfolding emptied
handed_over n kept new x read table old stands =
    rw (← read)
    (and_then table (rw table.parsed at (and_then old (rw old.parsed at stands))))

module _ (m : Model) (n q : ℕ) where
  -- To copy to another table and to empty the old one: in either order.
  emptied_apart : (t : ℕ) (x : Table) → t ≢ (shape_at m n).table
      → emptied (put_table m t x) n q ≡ put_table (emptied m n q) t x
  unfolding emptied shape_at put_shape put_table
  emptied_apart t x apart = rw (put-put m.tables t (shape_at m n).table x (used []) apart)

  -- What is emptied is not free, before and after.
  pub emptied-room : Sound m → Used m n → free_room (emptied m n q) ≡ free_room m
  unfolding emptied shape_at table_at put_shape put_table
  emptied-room sound u =
      let s = shape_at m n in
      rw (
        lowest-put free_shape 1 m.shapes n (unique_shape s.holds 0 q s.table) no_shape (sym u),
        lowest-put free_table 1 m.tables s.table (used []) free (sym (sound.shapes n u).table_used),
      )

-- ## A replacement

-- The keys fs were copied to the new table.
module _ {before now : List ℕ} (n : ℕ) (fs : List Entry) {new : FreePlaces} (room : Room (parse before) new)
    (copied : Becomes before now (put_table (parse before) new.table (used fs))) where
  same_table : (shape_at (parse now) n).table ≡ (shape_at (parse before) n).table
  unfolding shape_at put_table
  same_table = rw copied.parsed

  pub in_place : Place (length (parse before).shapes) n
      → Place (length (parse before).tables) (shape_at (parse before) n).table
      → InPlace (parse now) n new
  in_place shape table =
      let sizes = copied.sizes in
      record {
        old_shape = rw sizes.shapes shape;
        old_table = rw (sizes.tables, same_table) table;
        new_shape = rw sizes.shapes room.shape;
        new_table = rw sizes.tables room.table;
      }

  pub replacement : (q p : ℕ) {after : List ℕ} → (shape_at (parse before) n).table ≢ new.table
      → Becomes now after
      (put_shape (emptied (parse now) n q) new.shape
      (unique_shape 0 (length (entries_in now new.table)) p new.table))
      → Becomes before after
      (put_shape (put_table (emptied (parse before) n q) new.table (used fs)) new.shape
      (unique_shape 0 (length fs) p new.table))
  replacement q p apart handed =
      let m = parse before in
      let order = emptied_apart m n q new.table (used fs) (λ same. apart (sym same)) in
      let its = table-put m new.table (used fs) room.table in
      and_then copied (rw (copied.parsed, order, its) at handed)
