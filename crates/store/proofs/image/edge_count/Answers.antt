-- `store::image::edge_count` meets its contract. Assumes nothing.
use lib.Dec.{lit<}
use native.Mathlib.Omega.{arith}
use Rattle.store.specs.Image.{header_there, header_word}
use Rattle.store.proofs.image.edge_count.Goals as goal

pub bounds-image-3 : goal.bounds-image-3
bounds-image-3 c = omega (arith, header_there c.requires)

pub returns : goal.returns
returns c = header_word c.requires 3 (lit< tt)
