-- `forward_transition::add_edge` meets its contract.
-- Assumes nothing.
use Rattle.store.specs.Model.{free_edge, no_edge}
use Rattle.store.specs.Layout.{parse}
use Rattle.forward_transition.specs.Transitions.{lowest-inside}
use Rattle.forward_transition.proofs.add_edge.Goals as goal

pub put_edge-requires-clause-place : goal.put_edge-requires-clause-place
put_edge-requires-clause-place c =
    rw c.lowest_free_edge-place.ensures
    (lowest-inside free_edge no_edge (parse c.args.image.now).edges
    c.requires.bound)
