-- `sweep::passes::free_unmarked_tables` meets its contract. Assumes nothing.
use Rattle.store.specs.Layout.{parse}
use Rattle.rules.specs.Sweep.{sweep_tables}
use Rattle.store.specs.Passes.{of_tables, Pass}
use Rattle.sweep.proofs.passes.free_unmarked_tables.Given as goal

abbrev pub invariant-loop-done : goal.invariant-loop-done
invariant-loop-done l = Pass of_tables (sweep_tables (parse l.initial.image).shapes (parse l.initial.image).tables) l.initial.image l.image l.done
