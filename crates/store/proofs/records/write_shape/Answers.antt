-- `store::records::write_shape` meets its contract. Assumes nothing.
use Rattle.store.specs.Layout.{shape_words}
use Rattle.store.specs.Spots.{all-stored}
use Rattle.store.proofs.records.write_shape.Goals as goal

pub returns : goal.returns
returns c = all-stored (shape_words c.args.s) c.args.words.now c.requires
