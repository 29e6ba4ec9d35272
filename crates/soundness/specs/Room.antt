-- The room that a test of an image is lent.
-- Assumes nothing.
use Rattle.std.specs.Prelude.{List, ℕ, ◌≤◌, ◌<◌, length}
use Rattle.store.specs.Model.{Model}

-- A code for each key of a table or for each edge, and a word for each shape, table or code.
pub record Room (m : Model) (codes room : List ℕ) : Type 0 where
  pub keys : m.K ≤ length codes
  pub edges : length m.edges ≤ length codes
  pub shapes : length m.shapes < length room
  pub tables : length m.tables < length room
  pub seats : length codes ≤ length room

-- No more shapes, tables or edges than so many.
pub record Within (most : ℕ) (m : Model) : Type 0 where
  pub shapes : length m.shapes ≤ most
  pub tables : length m.tables ≤ most
  pub edges : length m.edges ≤ most
