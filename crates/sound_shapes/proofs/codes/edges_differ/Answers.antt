-- `sound_shapes::codes::edges_differ` meets its contract. Assumes nothing.
use Rattle.sound_shapes.specs.Codes.{edges-told}
use Rattle.sound_shapes.proofs.codes.edges_differ.Goals as goal

pub returns : goal.returns
returns c =
    let pre = c.requires in
    let write-codes = c.write_codes in
    let IsEdge-count = c.edge_count in
    let first-are-distinct = c.first_are_distinct in
    edges-told pre.formed.limited.shapes pre.edges_known write-codes.ensures
    (rw IsEdge-count.ensures at first-are-distinct.ensures)
