-- `store::image::free_shapes` meets its contract. Assumes nothing.
use Rattle.store.specs.FreePlaces.{shapes-listed, count-listed}
use Rattle.store.proofs.image.free_shapes.Goals as goal

pub count_unused-requires : goal.count_unused-requires
count_unused-requires c = (shapes-listed c.requires c.shape_count.ensures).area

pub returns : goal.returns
returns c =
    let pre = c.requires in
    let shape-count = c.shape_count in
    let count-unused = c.count_unused in
    count-listed (shapes-listed pre shape-count.ensures) count-unused.ensures
