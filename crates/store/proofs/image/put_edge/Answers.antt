-- `store::image::put_edge` meets its contract. Assumes nothing.
use Rattle.store.specs.Image.{edge_row, row_put, becomes, put_edge_sizes}
use native.Mathlib.Omega.{arith}
use mathlib.Core.Path.{refl}
use Rattle.store.proofs.image.put_edge.Goals as goal

pub row_at-at-requires : goal.row_at-at-requires
row_at-at-requires c =
    let pre = c.requires in
    let edges = c.edges in
    (pre.place.low, (edge_row pre.formed edges.ensures pre.place).inside)

pub slice_bounds-write_edge-end : goal.slice_bounds-write_edge-end
slice_bounds-write_edge-end c =
    let pre = c.requires in
    let edges = c.edges in
    omega (arith, (edge_row pre.formed edges.ensures pre.place).inside)

pub returns : goal.returns
returns c =
    let pre = c.requires in
    let edges = c.edges in
    let row_at = c.row_at-at in
    let write-edge = c.write_edge in
    becomes pre.formed
    (row_put (edge_row pre.formed edges.ensures pre.place) _ row_at.ensures refl write-edge.ensures
    refl) (put_edge_sizes _ _ _)
