-- `store::rows::lowest_unused` meets its contract. Assumes nothing.
use Rattle.store.specs.FreePlaces.{unused}
use Rattle.store.specs.Scans.{Scanning, lowest_scan}
use Rattle.store.specs.Lists.{lowest}
use Rattle.store.specs.Layout.{rows}
use lib.ListN.{drop}
use mathlib.Core.List.{[]}
use Rattle.store.proofs.rows.lowest_unused.Given as goal

abbrev pub invariant-loop-done : goal.invariant-loop-done
invariant-loop-done l =
    Scanning (lowest_scan [] unused (rows l.width l.count (drop l.area l.image))) l.done
    (lowest unused 1 (rows l.width l.count (drop l.area l.image)))
