-- `sound_tables::tidy::tidy_rows` meets its contract. Assumes nothing.
use mathlib.Core.List.{[]}
use Rattle.store.specs.Layout.{rows, tidy_table}
use Rattle.store.specs.Lists.{every}
use lib.ListN.{drop}
use Rattle.store.specs.Scans.{Scanning, every_scan}
use Rattle.sound_tables.proofs.tidy.tidy_rows.Given as goal

abbrev pub invariant-loop-done : goal.invariant-loop-done
invariant-loop-done l =
    let tables = rows l.width l.count (drop l.area l.image) in
    Scanning (every_scan [] (tidy_table l.keys) tables) l.done (every (tidy_table l.keys) tables)
