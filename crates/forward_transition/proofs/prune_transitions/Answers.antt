-- `forward_transition::prune_transitions` meets its contract.
-- Assumes nothing.
use Rattle.store.specs.Image.{and_then}
use Rattle.rules.specs.Steps.{pruned}
use Rattle.forward_transition.proofs.prune_transitions.Goals as goal

pub returns : goal.returns
unfolding pruned
returns c =
    and_then c.prune.ensures
    (rw c.prune.ensures.parsed
    at c.put_counter.ensures)
