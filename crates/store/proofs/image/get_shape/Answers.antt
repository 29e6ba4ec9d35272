-- `store::image::get_shape` meets its contract. Assumes nothing.
use Rattle.store.specs.Image.{shape_row}
use Rattle.store.specs.Layout.{read_shape}
use lib.ListN.{length}
use mathlib.Core.Path.{◌∙◌, ap}
use Rattle.store.proofs.image.get_shape.Goals as goal

pub row-requires : goal.row-requires
row-requires c = (c.requires.place.low, (shape_row c.requires.formed c.requires.place).inside)

pub read_shape-requires : goal.read_shape-requires
read_shape-requires c =
    let row = c.row in
    let pre = c.requires in
    ap length (row.ensures ∙ (shape_row pre.formed pre.place).read)

pub returns : goal.returns
returns c =
    let read-shape = c.read_shape in
    let row = c.row in
    let pre = c.requires in
    read-shape.ensures ∙ ap read_shape (row.ensures ∙ (shape_row pre.formed pre.place).read)
