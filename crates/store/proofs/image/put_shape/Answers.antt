-- `store::image::put_shape` meets its contract. Assumes nothing.
use Rattle.store.specs.Image.{shape_row, row_put, becomes, put_shape_sizes}
use native.Mathlib.Omega.{arith}
use mathlib.Core.Path.{refl}
use Rattle.store.proofs.image.put_shape.Goals as goal

pub row_at-at-requires : goal.row_at-at-requires
row_at-at-requires c =
    let pre = c.requires in
    (pre.place.low, (shape_row pre.formed pre.place).inside)

pub slice_bounds-write_shape-end : goal.slice_bounds-write_shape-end
slice_bounds-write_shape-end c =
    let pre = c.requires in
    omega (arith, (shape_row pre.formed pre.place).inside)

pub returns : goal.returns
returns c =
    let pre = c.requires in
    let row_at = c.row_at-at in
    let write_shape = c.write_shape in
    becomes pre.formed
    (row_put (shape_row pre.formed pre.place) _ row_at.ensures refl write_shape.ensures refl)
    (put_shape_sizes _ _ _)
