-- `store::image::table_count` meets its contract. Assumes nothing.
use lib.Dec.{lit<}
use native.Mathlib.Omega.{arith}
use Rattle.store.specs.Image.{header_there, header_word}
use Rattle.store.proofs.image.table_count.Goals as goal

pub bounds-image-1 : goal.bounds-image-1
bounds-image-1 c = omega (arith, header_there c.requires)

pub returns : goal.returns
returns c = header_word c.requires 1 (lit< tt)
