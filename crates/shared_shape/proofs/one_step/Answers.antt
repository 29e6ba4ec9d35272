-- `shared_shape::one_step` meets its contract. Assumes nothing.
use Rattle.shared_shape.specs.Transition.{one_legal, one_is}
use Rattle.shared_shape.proofs.one_step.Goals as goal

pub transition-requires-clause-legal_steps : goal.transition-requires-clause-legal_steps
transition-requires-clause-legal_steps c = one_legal _ _ _ c.requires.legal

pub returns : goal.returns
returns c = rw (one_is _ _ _) at c.transition.ensures
