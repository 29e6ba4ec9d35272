-- `store::rows::count_unused` meets its contract. Assumes nothing.
use Rattle.store.specs.FreePlaces.{unused}
use Rattle.store.specs.Scans.{Counting}
use Rattle.store.specs.Layout.{rows}
use lib.ListN.{drop}
use Rattle.store.proofs.rows.count_unused.Given as goal

abbrev pub invariant-loop-done : goal.invariant-loop-done
invariant-loop-done l = Counting unused (rows l.width l.count (drop l.area l.image)) l.done l.free
