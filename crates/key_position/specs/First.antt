-- The first entries of a table: a shape's own are the first of its table, which others may share.
-- Assumes nothing.
use Rattle.std.specs.Prelude.{List, ℕ, ◌≤◌, length, take}
use Rattle.store.specs.Model.{Model, table_at, entries_of}
use Rattle.store.specs.Image.{Place}
use Rattle.store.specs.declared.Shape.{Shape}
use Rattle.store.specs.declared.Entry.{Entry}
use Rattle.key_position.specs.declared.FirstEntries.{FirstEntries}

-- Those that are a shape's own.
abbrev pub own : Shape → FirstEntries
own s = record { table = s.table; count = s.properties }

abbrev pub first_entries : Model → FirstEntries → List Entry
first_entries m f = take f.count (entries_of (table_at m f.table))

-- The table is one, and has as many entries.
pub record AreThere (m : Model) (f : FirstEntries) : Type 0 where
  pub place : Place (length m.tables) f.table
  pub enough : f.count ≤ length (entries_of (table_at m f.table))
