-- `sweep::passes::mark_tables` meets its contract. Assumes nothing.
use Rattle.store.specs.Layout.{parse}
use Rattle.sweep.specs.Users.{Users}
use Rattle.sweep.proofs.passes.mark_tables.Given as goal

abbrev pub invariant-loop-done : goal.invariant-loop-done
invariant-loop-done l = Users (parse l.image).shapes l.initial.users l.users l.done
