-- `shared_step::take_steps` meets its contract. Assumes nothing.
use Rattle.shared_step.specs.Walking.{Walking}
use Rattle.shared_step.proofs.take_steps.Given as goal

abbrev pub invariant-loop-t : goal.invariant-loop-t
invariant-loop-t l = Walking l.initial.image l.n l.list l.t-index l.image l.reached
