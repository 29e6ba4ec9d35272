-- `store::image::lowest_free_edge` meets its contract. Assumes nothing.
use Rattle.store.specs.FreePlaces.{edges-listed, lowest-listed}
use Rattle.store.proofs.image.lowest_free_edge.Goals as goal

pub lowest_unused-requires : goal.lowest_unused-requires
lowest_unused-requires c =
    let pre = c.requires in
    let edges = c.edges in
    let IsEdge-count = c.edge_count in
    (edges-listed pre edges.ensures IsEdge-count.ensures).area

pub returns : goal.returns
returns c =
    let pre = c.requires in
    let edges = c.edges in
    let IsEdge-count = c.edge_count in
    let lowest-unused = c.lowest_unused in
    lowest-listed (edges-listed pre edges.ensures IsEdge-count.ensures) lowest-unused.ensures
