-- `store::image::edges` meets its contract. Assumes nothing.
use lib.Dec.{lit<}
use native.Mathlib.Omega.{arith}
use Rattle.store.specs.Image.{header_there, header_word}
use Rattle.store.proofs.image.edges.Goals as goal

pub bounds-image-6 : goal.bounds-image-6
bounds-image-6 c = omega (arith, header_there c.requires)

pub returns : goal.returns
returns c = header_word c.requires 6 (lit< tt)
