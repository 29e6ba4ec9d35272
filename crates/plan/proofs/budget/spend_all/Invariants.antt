-- `plan::budget::spend_all` meets its contract. Assumes nothing.
use Rattle.std.specs.Prelude.{map}
use Rattle.rules.specs.Placing.{step_in}
use Rattle.plan.specs.Budget.{SpentTo}
use Rattle.plan.proofs.budget.spend_all.Given as goal

abbrev pub invariant-loop-step : goal.invariant-loop-step
invariant-loop-step l = SpentTo (map step_in l.steps) l.initial.left l.step-index l.left
