-- `draw::draw` meets its contract: the image stays sound and as large as it was, so that its graph has room.
-- Assumes nothing.
use Rattle.std.proofs.Common.{rules}
use Rattle.drawing.specs.Room.{small-blank, small_still}
use Rattle.draw.proofs.draw.Goals as goal

pub write_graph-written-requires-clause-image_bound :
    goal.write_graph-written-requires-clause-image_bound
write_graph-written-requires-clause-image_bound g c =
    let replayed = c.replay.ensures.stopped.1 in
    (small_still replayed.became.sizes (small-blank c.requires.blank)).keys

pub write_graph-written-requires-clause-image_in_bounds :
    goal.write_graph-written-requires-clause-image_in_bounds
write_graph-written-requires-clause-image_in_bounds g c =
    let replayed = c.replay.ensures.stopped.1 in
    let small = small_still replayed.became.sizes (small-blank c.requires.blank) in
    let shapes = small.shapes in
    let edges = small.edges in
    search rules
