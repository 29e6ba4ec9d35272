-- `forward_transition::count_up` meets its contract.
-- Assumes nothing.
use Rattle.std.proofs.Common.{arith}
use Rattle.forward_transition.specs.Transitions.{count-raised}
use Rattle.forward_transition.proofs.count_up.Goals as goal

pub returns : goal.returns
returns c =
    count-raised _ _ _ _
    c.insertion_count-old.ensures
    (omega arith) c.raised.ensures
    c.prune_at_limit.ensures
    c.put_counter.ensures
