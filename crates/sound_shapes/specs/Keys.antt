-- The entries of a shape.
-- Assumes nothing.
use Rattle.std.specs.Prelude.{Bool, true, ◌&&◌, List, map, ◌≡◌, refl, length}
use Rattle.std.proofs.Common.{length-take-le}
use Rattle.slot.specs.Attributes.{good_attributes}
use Rattle.store.specs.Lists.{every}
use Rattle.store.specs.ListLaws.{and_both, every-numbered}
use Rattle.store.specs.Model.{Table, free, used, Model, table_at, entries_of}
use Rattle.store.specs.declared.Shape.{Shape}
use Rattle.store.specs.declared.Entry.{Entry}
use Rattle.rules.specs.Numbers.{good_key}
use Rattle.rules.specs.Shapes.{table_of, entries}
use Rattle.rules.specs.Sound.{on_table, distinct, good_entries, tables_good}
use Rattle.rules.specs.InUse.{Tabled}

abbrev pub keys_differ : List Entry → Bool
keys_differ es = distinct (map (λ e. e.key) es)

abbrev pub each_good : List Entry → Bool
each_good es = every (λ e. good_key e.key && good_attributes e.attributes) es

pub good_entries_lem : (m : Model) → tables_good m ≡ true → (s : Shape)
    → (keys_differ (table_of m s) ≡ true) × (each_good (table_of m s) ≡ true)
unfolding tables_good table_at
good_entries_lem m good s =
    let test = on_table (λ t es. good_entries es) in
    go (table_at m s.table) (every-numbered free test (λ k. refl) m.tables good s.table)
  where
    go : (t : Table) → on_table (λ t es. good_entries es) (s.table, t) ≡ true
        → (keys_differ (entries_of t) ≡ true) × (each_good (entries_of t) ≡ true)
    go free e = (refl, refl)
    go (used es) e = and_both (keys_differ es) (and_both (keys_differ es && each_good es) e).0

pub tabled_long : {m : Model} {s : Shape} → Tabled m s → length (entries m s) ≡ s.properties
tabled_long {m} {s} r = length-take-le s.properties (table_of m s) r.fits
