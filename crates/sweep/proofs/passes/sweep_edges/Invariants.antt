-- `sweep::passes::sweep_edges` meets its contract. Assumes nothing.
use mathlib.Core.List.{map}
use Rattle.store.specs.Layout.{parse}
use Rattle.rules.specs.Sweep.{sweep_edge}
use Rattle.sweep.specs.Marks.{marked}
use Rattle.store.specs.Passes.{of_edges, Pass}
use Rattle.sweep.proofs.passes.sweep_edges.Given as goal

abbrev pub invariant-loop-done : goal.invariant-loop-done
invariant-loop-done l = Pass of_edges (map (sweep_edge (marked l.marks)) (parse l.initial.image).edges) l.initial.image l.image l.done
