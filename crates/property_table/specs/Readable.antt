-- The table of a shape in use.
-- Assumes nothing.
use Rattle.std.specs.Prelude.{◌≡◌, ℕ}
use Rattle.store.specs.Model.{Model, used, shape_at, table_at}
use Rattle.store.specs.declared.Shape.{Shape}
use Rattle.rules.specs.Shapes.{table_of}
use Rattle.theorems.specs.Facts.{Used, Sound, used_table, table-inside}
use Rattle.key_position.specs.First.{own, AreThere}
use Rattle.property_table.specs.Slotted.{Slotted, good_slotted}

-- What a reader of its entries needs.
pub record Readable (m : Model) (s : Shape) : Type 0 where
  pub there : AreThere m (own s)
  pub slotted : Slotted (table_of m s)

pub readable : {m : Model} {s : Shape} → Sound m → (n : ℕ) → Used m n → s ≡ shape_at m n → Readable m s
readable {m} sound n u read = rw read record {
  there = record { place = table-inside m sound n u; enough = (sound.shapes n u).count_fits };
  slotted = good_slotted (table_of m there) (sound.tables there.table (table_of m there) in_use).good;
}
  where
    there : Shape
    there = shape_at m n

    in_use : table_at m there.table ≡ used (table_of m there)
    in_use = used_table (table_at m there.table) (sound.shapes n u).table_used
