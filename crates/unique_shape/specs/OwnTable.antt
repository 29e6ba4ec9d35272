-- What soundness says of a unique shape and the table that it has for itself.
-- Assumes nothing.
use Rattle.std.specs.Prelude.{true, false, List, ◌≢◌, ◌≡◌, ℕ, ◌<◌, length}
use Rattle.std.proofs.Common.{arith}
use Rattle.store.specs.Model.{Model, free_table, shape_at, table_at}
use Rattle.store.specs.Layout.{parse}
use Rattle.store.specs.Image.{Formed, Place}
use Rattle.store.specs.Tables.{entries_fit}
use Rattle.store.specs.declared.Shape.{Shape}
use Rattle.rules.specs.Shapes.{unique, table_of, entries}
use Rattle.rules.specs.Sound.{distinct}
use Rattle.theorems.specs.Entries.{keys, good_keys}
use Rattle.rules.specs.InUse.{used_table_inside}
use Rattle.theorems.specs.Facts.{Sound, used_place_inside, used_table}
use Rattle.theorems.specs.Uniques.{is_used_lem, whole}
use Rattle.property_table.specs.Slotted.{Slotted, good_slotted}
use Rattle.property_table.specs.Copies.{entries_in}

pub record OwnTable (m : Model) (s : Shape) : Type 0 where
  pub place : Place (length m.tables) s.table
  pub in_use : free_table (table_at m s.table) ≡ false
  pub whole : entries m s ≡ table_of m s
  pub count : s.properties ≡ length (table_of m s)
  pub slotted : Slotted (table_of m s)
  pub differ : distinct (keys (table_of m s)) ≡ true

module _ (m : Model) (sound : Sound m) (n : ℕ) (is_unique : unique (shape_at m n) ≡ true) where
  pub shape_place : Place (length m.shapes) n
  shape_place = used_place_inside m n (is_used_lem m sound n is_unique)

  pub own_table : {s : Shape} → s ≡ shape_at m n → OwnTable m s
  own_table read =
      let its = shape_at m n in
      let u = is_used_lem m sound n is_unique in
      let in_use = (sound.shapes n u).table_used in
      let known = used_table (table_at m its.table) in_use in
      let good = (sound.tables its.table (table_of m its) known).good in
      rw read
      record {
        place = used_table_inside m its.table in_use;
        in_use = in_use;
        whole = whole m sound n is_unique;
        count = (sound.shapes n u).unique_whole is_unique;
        slotted = good_slotted (table_of m its) good;
        differ = (good_keys (table_of m its) good).differ;
      }

-- Where the keys are fewer than the limit there is room for one more, and the count does not wrap.
pub one-more-fits : {ws : List ℕ} {s : Shape} {limit : ℕ} → Formed ws → OwnTable (parse ws) s
    → limit ≡ (parse ws).K → s.properties ≢ limit
    → (length (entries_in ws s.table) < (parse ws).K) × (s.properties < 2048)
one-more-fits {s = s} formed own most few =
    let fit = entries_fit formed s.table in
    let count = own.count in
    let keys = formed.limited.keys in
    (omega arith, omega arith)

-- What each change of a unique shape looks up first.
pub ruleset unique_facts = (shape_place, is_used_lem)
