-- `store::image::lowest_free_shape` meets its contract. Assumes nothing.
use Rattle.store.specs.FreePlaces.{shapes-listed, lowest-listed}
use Rattle.store.proofs.image.lowest_free_shape.Goals as goal

pub lowest_unused-requires : goal.lowest_unused-requires
lowest_unused-requires c = (shapes-listed c.requires c.shape_count.ensures).area

pub returns : goal.returns
returns c =
    let pre = c.requires in
    let shape-count = c.shape_count in
    let lowest-unused = c.lowest_unused in
    lowest-listed (shapes-listed pre shape-count.ensures) lowest-unused.ensures
