-- `stepping::format_image` meets its contract. Assumes nothing.
use Rattle.stepping.specs.Answering.{starts}
use Rattle.stepping.proofs.format_image.Goals as goal

pub returns : goal.returns
returns c = starts c.args.image.now c.requires c.format.ensures.image_after
