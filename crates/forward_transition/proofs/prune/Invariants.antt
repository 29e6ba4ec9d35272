-- `forward_transition::prune` meets its contract.
-- Assumes nothing.
use Rattle.forward_transition.specs.Transitions.{Pruning}
use Rattle.forward_transition.proofs.prune.Given as goal

abbrev pub invariant-loop-done : goal.invariant-loop-done
invariant-loop-done l = Pruning l.parent l.kind l.initial.image l.image l.done
