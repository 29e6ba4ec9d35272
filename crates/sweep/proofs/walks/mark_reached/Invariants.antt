-- `sweep::walks::mark_reached` meets its contract. Assumes nothing.
use Prim.Native.Nat.{◌≤◌}
use lib.ListN.{length}
use Rattle.store.specs.Layout.{parse}
use Rattle.sweep.specs.Walks.{Walks}
use Rattle.sweep.proofs.walks.mark_reached.Given as goal

abbrev pub invariant-loop-done : goal.invariant-loop-done
invariant-loop-done l = (l.done ≤ length (parse l.image).shapes) × Walks (parse l.image) l.initial.marks l.marks l.done
