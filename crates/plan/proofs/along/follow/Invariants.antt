-- `plan::along::follow` meets its contract. Assumes nothing.
use Rattle.std.specs.Prelude.{map}
use Rattle.store.specs.Layout.{parse}
use Rattle.rules.specs.Placing.{step_in}
use Rattle.plan.specs.Along.{Following}
use Rattle.plan.proofs.along.follow.Given as goal

abbrev pub invariant-loop-found : goal.invariant-loop-found
invariant-loop-found l = Following (map step_in l.steps) (parse l.image) l.from l.found l.place
