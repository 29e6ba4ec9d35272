-- `forward_transition::dead_edges` meets its contract. Assumes nothing.
use Rattle.std.proofs.Common.{ap, ◌∙◌, arith}
use Rattle.store.specs.Model.{no_edge}
use Rattle.store.specs.Scans.{count_next, one_counted, edge-next}
use Rattle.rules.specs.Steps.{dead}
use Rattle.forward_transition.proofs.dead_edges.Goals as goal

pub loop-seen-preserved : goal.loop-seen-preserved
loop-seen-preserved c =
    let loop = c.loop-seen in
    let IsEdge-count = c.edge_count-count in
    let is-dead = c.is_dead in
    let args = c.args in
    let get-edge = c.get_edge in
    let one = c.from-found in
    count_next _ loop.invariant no_edge (omega (arith, IsEdge-count.ensures))
    (is-dead.ensures ∙ ap (dead args.parent args.kind) (get-edge.ensures ∙ edge-next _ _))
    (one_counted is-dead.result one.ensures)
