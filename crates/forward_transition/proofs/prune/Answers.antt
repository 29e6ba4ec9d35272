-- `forward_transition::prune` meets its contract.
-- Assumes nothing.
use Rattle.std.proofs.Common.{arith}
use Rattle.forward_transition.specs.Transitions.{prune-next}
use Rattle.forward_transition.proofs.prune.Goals as goal

pub loop-done-preserved : goal.loop-done-preserved
loop-done-preserved c =
    prune-next _ _ c.loop-done.invariant (omega arith)
    c.free_if_dead.ensures
