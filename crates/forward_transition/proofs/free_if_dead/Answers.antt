-- `forward_transition::free_if_dead` meets its contract.
-- Assumes nothing.
use Rattle.forward_transition.specs.Transitions.{left}
use Rattle.forward_transition.proofs.free_if_dead.Goals as goal

pub returns-else-is_dead : goal.returns-else-is_dead
returns-else-is_dead c =
    left _ _ _ _ c.get_edge.ensures c.is_dead.ensures c.if-is_dead.false
    c.requires.formed
