-- `sound_shapes::codes::write_codes` meets its contract. Assumes nothing.
use mathlib.Core.Path.{sym, ◌∙◌, refl}
use native.Mathlib.Omega.{arith}
use Rattle.store.specs.Layout.{parse}
use Rattle.distinct.specs.Written.{written_none, written_next, written_all}
use Rattle.sound_shapes.specs.Codes.{length_codes, edge_coded, code-next}
use Rattle.sound_shapes.proofs.codes.write_codes.Goals as goal

pub loop-done-init : goal.loop-done-init
loop-done-init c =
    let args = c.args in
    let pre = c.requires in
    written_none (omega (arith, length_codes 1 (parse args.image.now).edges, pre.image_in_bounds))

pub edge_code-requires : goal.edge_code-requires
edge_code-requires c =
    let pre = c.requires in
    rw c.get_edge.ensures (edge_coded pre.formed.limited.shapes pre.edges_known _)

pub loop-done-preserved : goal.loop-done-preserved
loop-done-preserved c =
    let args = c.args in
    let IsEdge-count = c.edge_count-done-end in
    let loop = c.loop-done in
    let loop-test = c.loop-done-test in
    let get-edge = c.get_edge in
    written_next loop.invariant
    (omega (arith, length_codes 1 (parse args.image.now).edges, IsEdge-count.ensures, loop-test.true))
    refl
    (c.edge_code.ensures
    ∙ code-next (parse args.image.now) _ (omega (arith, IsEdge-count.ensures, loop-test.true))
    get-edge.ensures)

pub returns : goal.returns
returns c =
    let args = c.args in
    let IsEdge-count = c.edge_count-done-end in
    let loop = c.loop-done in
    written_all loop.invariant (sym (length_codes 1 (parse args.image.now).edges))
    (omega (arith, IsEdge-count.ensures, c.loop-done-test.false))
