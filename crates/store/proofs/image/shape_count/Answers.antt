-- `store::image::shape_count` meets its contract. Assumes nothing.
use lib.Dec.{lit<}
use native.Mathlib.Omega.{arith}
use Rattle.store.specs.Image.{header_there, header_word}
use Rattle.store.proofs.image.shape_count.Goals as goal

pub bounds-image-0 : goal.bounds-image-0
bounds-image-0 c = omega (arith, header_there c.requires)

pub returns : goal.returns
returns c = header_word c.requires 0 (lit< tt)
