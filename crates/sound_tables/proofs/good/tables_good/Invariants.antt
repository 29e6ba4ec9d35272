-- `sound_tables::good::tables_good` meets its contract. Assumes nothing.
use Rattle.rules.specs.Sound.{tables_good}
use Rattle.store.specs.Layout.{parse}
use Rattle.store.specs.Model.{free}
use Rattle.store.specs.Scans.{Scanning, places_scan}
use Rattle.sound_tables.specs.Good.{good_table}
use Rattle.sound_tables.proofs.good.tables_good.Given as goal

abbrev pub invariant-loop-done : goal.invariant-loop-done
invariant-loop-done l =
    Scanning (places_scan free good_table (parse l.image).tables) l.done (tables_good (parse l.image))
