-- The lowest free places for a shape and for a table of its own: what the search for them answers, and what
-- the rule for a new shape gives by it.
-- Assumes nothing.
use Rattle.std.specs.Prelude.{Bool, true, false, List, ◌≢◌, ◌≡◌, refl, ℕ, eqb, length, Err, Ok, Result}
use Rattle.std.specs.Prelude.{if◌then◌else◌}
use Rattle.store.specs.Lists.{lowest}
use Rattle.store.specs.Model.{Table, Model, used, free, no_shape, free_shape, free_table, shape_at, table_at}
use Rattle.store.specs.Model.{put_shape, put_table}
use Rattle.store.specs.ListLaws.{not-both}
use Rattle.store.specs.Layout.{parse}
use Rattle.store.specs.Image.{Formed, Place, Becomes, and_then}
use Rattle.store.specs.declared.Shape.{Shape}
use Rattle.store.specs.declared.Entry.{Entry}
use Rattle.rules.specs.declared.Refusal.{Refusal}
use Rattle.rules.specs.declared.Refusal.TheVariants.{ShapesFull, TablesFull}
use Rattle.rules.specs.Refusals.{ok, refused}
use Rattle.rules.specs.Placing.{Places}
use Rattle.rules.specs.Steps.{fresh}
use Rattle.rules.specs.Shapes.{table_of}
use Rattle.theorems.specs.Taken.{place-passed}
use Rattle.rules.specs.InUse.{used_table_inside}
use Rattle.theorems.specs.Facts.{Used, Sound, used_table}
use Rattle.theorems.specs.Grow.{free_unused}
use Rattle.property_table.specs.Slotted.{good_slotted}
use Rattle.property_table.specs.Copies.{Apart}
use Rattle.fresh.specs.declared.FreePlaces.{FreePlaces}

abbrev room_at : (shape table : ℕ) → Result FreePlaces Refusal
room_at n t =
    if eqb n 0 then Err ShapesFull
    else if eqb t 0 then Err TablesFull
    else Ok (record { shape = n; table = t })

-- ShapesFull: "a shape is needed, no place free"; TablesFull: "a table is needed, no place free".
abbrev pub free_room : Model → Result FreePlaces Refusal
free_room m = room_at (lowest free_shape 1 m.shapes) (lowest free_table 1 m.tables)

-- Both places are free, and a new shape with its table is put there.
pub record Room (m : Model) (p : FreePlaces) : Type 0 where
  pub shape : Place (length m.shapes) p.shape
  pub shape_free : free_shape (shape_at m p.shape) ≡ true
  pub table : Place (length m.tables) p.table
  pub table_free : table_at m p.table ≡ free
  gives : (shape : (table : ℕ) → Shape) (es : List Entry)
      → fresh m shape es
      ≡ ok (put_shape (put_table m p.table (used es)) p.shape (shape p.table), p.shape)

-- What an answer means to the rule.
abbrev Says : Model → Result FreePlaces Refusal → Type 0
Says m (Ok p) = Room m p
Says m (Err r) = (shape : (table : ℕ) → Shape) (es : List Entry) → fresh m shape es ≡ refused r

its_free : (t : Table) → free_table t ≡ true → t ≡ free
its_free free e = refl
its_free (used es) e = not-both e refl

room_says : (m : Model) → Says m (free_room m)
unfolding fresh shape_at table_at
room_says m = go (eqb n 0) (eqb t 0) refl refl
  where
    n : ℕ
    n = lowest free_shape 1 m.shapes

    t : ℕ
    t = lowest free_table 1 m.tables

    go : (a b : Bool) → eqb n 0 ≡ a → eqb t 0 ≡ b → Says m (room_at n t)
    go true b x y = rw x (λ shape es. rw x)
    go false true x y = rw (x, y) (λ shape es. rw (x, y))
    go false false x y =
        let a = place-passed ShapesFull free_shape no_shape m.shapes n (rw x) in
        let b = place-passed TablesFull free_table free m.tables t (rw y) in
        rw (x, y)
        record {
          shape = record { low = a.low; high = a.high };
          shape_free = a.was_free;
          table = record { low = b.low; high = b.high };
          table_free = its_free _ b.was_free;
          gives = λ shape es. rw (x, y);
        }

-- ## What code does with the answer

module _ (m : Model) {r : Result FreePlaces Refusal} (answer : r ≡ free_room m) where
  pub room : {p : FreePlaces} → r ≡ Ok p → Room m p
  room found = rw (← answer, found) at (room_says m)

  -- Where there is no room nothing is written,
  pub fresh_refused : (ws : List ℕ) {x : Refusal} → r ≡ Err x
      → (shape : (table : ℕ) → Shape) (es : List Entry)
      → Places ws ws (fresh m shape es) (Err x)
  fresh_refused ws full shape es =
      let no_room = rw (← answer, full) at (room_says m) in
      rw (no_room shape es) (refl, refl)

  -- and where there is, the table and the shape.
  pub fresh-put : {before after : List ℕ} {p : FreePlaces} → r ≡ Ok p
      → (shape : (table : ℕ) → Shape) (es : List Entry)
      → Becomes before after (put_shape (put_table m p.table (used es)) p.shape (shape p.table))
      → Places before after (fresh m shape es) (Ok p.shape)
  fresh-put found shape es put = rw ((room found).gives shape es) (put, refl)

-- The table is written first, and the place for the shape is still there.
pub shape_ready : {before now : List ℕ} {m : Model} {p : FreePlaces} → Room (parse before) p
    → Becomes before now m → Formed now × Place (length (parse now).shapes) p.shape
shape_ready room table = (table.formed, rw table.sizes.shapes room.shape)

module _ {m : Model} {p : FreePlaces} (room : Room m p) (sound : Sound m) (n : ℕ) (u : Used m n) where
  -- A shape in use has another table.
  pub tables_differ : (shape_at m n).table ≢ p.table
  tables_differ = free_unused m sound p.table (rw room.table_free) n u

  pub copy_ready : Apart m (shape_at m n).table p.table
  copy_ready =
      let s = shape_at m n in
      let in_use = (sound.shapes n u).table_used in
      let good = (sound.tables s.table (table_of m s) (used_table (table_at m s.table) in_use)).good in
      record {
        source = used_table_inside m s.table in_use;
        target = room.table;
        differ = tables_differ;
        slotted = good_slotted (table_of m s) good;
      }

-- One after the other.
pub fresh-made : {before now after : List ℕ} {r : Result FreePlaces Refusal} → r ≡ free_room (parse before)
    → {p : FreePlaces} → r ≡ Ok p → (shape : (table : ℕ) → Shape) (es : List Entry)
    → Becomes before now (put_table (parse before) p.table (used es))
    → Becomes now after (put_shape (parse now) p.shape (shape p.table))
    → Places before after (fresh (parse before) shape es) (Ok p.shape)
fresh-made answer found shape es table stands =
    fresh-put _ answer found shape es (and_then table (rw table.parsed at stands))
