-- `store::image::free_edges` meets its contract. Assumes nothing.
use Rattle.store.specs.FreePlaces.{edges-listed, count-listed}
use Rattle.store.proofs.image.free_edges.Goals as goal

pub count_unused-requires : goal.count_unused-requires
count_unused-requires c =
    let pre = c.requires in
    let edges = c.edges in
    let IsEdge-count = c.edge_count in
    (edges-listed pre edges.ensures IsEdge-count.ensures).area

pub returns : goal.returns
returns c =
    let pre = c.requires in
    let edges = c.edges in
    let IsEdge-count = c.edge_count in
    let count-unused = c.count_unused in
    count-listed (edges-listed pre edges.ensures IsEdge-count.ensures) count-unused.ensures
