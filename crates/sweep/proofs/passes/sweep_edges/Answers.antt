-- `sweep::passes::sweep_edges` meets its contract. Assumes nothing.
use native.Mathlib.Omega.{arith}
use Rattle.store.specs.Model.{edge_at, put_edge}
use Rattle.store.specs.Layout.{parse}
use Rattle.rules.specs.Sweep.{sweep_edge}
use Rattle.sweep.specs.Marks.{marked}
use Rattle.store.specs.Passes.{of_edges, pass_next}
use Rattle.sweep.specs.Passes.{edge-at}
use Rattle.sweep.proofs.passes.sweep_edges.Goals as goal

pub loop-done-preserved : goal.loop-done-preserved
unfolding edge_at put_edge
loop-done-preserved c =
    let loop = c.loop-done in
    let args = c.args in
    let IsEdge-count = c.edge_count-count in
    let sweep-edge = c.sweep_edge in
    pass_next of_edges loop.invariant (sweep_edge (marked args.marks.now))
    (omega (arith, IsEdge-count.ensures))
    (edge-at (marked args.marks.now) (parse args.image.now).edges loop.done)
    sweep-edge.ensures
