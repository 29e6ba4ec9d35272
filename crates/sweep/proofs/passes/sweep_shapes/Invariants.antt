-- `sweep::passes::sweep_shapes` meets its contract. Assumes nothing.
use Rattle.store.specs.Layout.{parse}
use Rattle.rules.specs.Sweep.{sweep_shapes}
use Rattle.sweep.specs.Marks.{marked}
use Rattle.store.specs.Passes.{of_shapes, Pass}
use Rattle.sweep.proofs.passes.sweep_shapes.Given as goal

abbrev pub invariant-loop-done : goal.invariant-loop-done
invariant-loop-done l = Pass of_shapes (sweep_shapes (marked l.marks) (parse l.initial.image).shapes) l.initial.image l.image l.done
