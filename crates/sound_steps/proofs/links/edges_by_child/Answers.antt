-- `sound_steps::links::edges_by_child` meets its contract. Assumes nothing.
use native.Mathlib.Omega.{arith}
use Rattle.sound_steps.specs.Links.{mark_next, all-marked}
use Rattle.sound_steps.proofs.links.edges_by_child.Goals as goal

pub loop-done-preserved : goal.loop-done-preserved
loop-done-preserved c =
    let loop = c.loop-done in
    let IsEdge-count = c.edge_count-done-end in
    let get-edge = c.get_edge-edge in
    let note = c.note in
    (mark_next loop.invariant (omega (arith, IsEdge-count.ensures)) get-edge.ensures note.ensures).0

pub returns : goal.returns
returns c = all-marked c.loop-done.invariant (omega (arith, c.edge_count-done-end.ensures))
