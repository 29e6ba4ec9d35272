-- `store::image::tables` meets its contract. Assumes nothing.
use lib.Dec.{lit<}
use native.Mathlib.Omega.{arith}
use Rattle.store.specs.Image.{header_there, header_word}
use Rattle.store.proofs.image.tables.Goals as goal

pub bounds-image-5 : goal.bounds-image-5
bounds-image-5 c = omega (arith, header_there c.requires)

pub returns : goal.returns
returns c = header_word c.requires 5 (lit< tt)
