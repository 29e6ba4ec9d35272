-- `store::image::key_limit` meets its contract. Assumes nothing.
use lib.Dec.{lit<}
use native.Mathlib.Omega.{arith}
use Rattle.store.specs.Image.{header_there, header_word}
use Rattle.store.proofs.image.key_limit.Goals as goal

pub bounds-image-2 : goal.bounds-image-2
bounds-image-2 c = omega (arith, header_there c.requires)

pub returns : goal.returns
returns c = header_word c.requires 2 (lit< tt)
