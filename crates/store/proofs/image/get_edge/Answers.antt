-- `store::image::get_edge` meets its contract. Assumes nothing.
use Rattle.store.specs.Image.{edge_row}
use Rattle.store.specs.Layout.{read_edge}
use lib.ListN.{length}
use mathlib.Core.Path.{◌∙◌, ap}
use Rattle.store.proofs.image.get_edge.Goals as goal

pub row-requires : goal.row-requires
row-requires c =
    let pre = c.requires in
    let edges = c.edges in
    (pre.place.low, (edge_row pre.formed edges.ensures pre.place).inside)

pub read_edge-requires : goal.read_edge-requires
read_edge-requires c =
    let row = c.row in
    let pre = c.requires in
    let edges = c.edges in
    ap length (row.ensures ∙ (edge_row pre.formed edges.ensures pre.place).read)

pub returns : goal.returns
returns c =
    let read-edge = c.read_edge in
    let row = c.row in
    let pre = c.requires in
    let edges = c.edges in
    read-edge.ensures ∙ ap read_edge (row.ensures ∙ (edge_row pre.formed edges.ensures pre.place).read)
