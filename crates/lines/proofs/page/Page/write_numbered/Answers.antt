-- `lines::page::Page::write_numbered` meets its contract. Assumes nothing.
use native.Mathlib.Omega.{arith}
use Rattle.lines.specs.Decimal.{ten_digits}
use Rattle.lines.specs.Pages.{adds_then}
use Rattle.lines.proofs.page.Page.write_numbered.Goals as goal

pub write_number-requires : goal.write_number-requires
write_number-requires c =
    omega (arith, c.requires, c.write_word.ensures.few, c.write_word.ensures.long, ten_digits c.args.n c.ranges.n.fits)

pub returns : goal.returns
returns c = adds_then c.write_word.ensures c.write_number.ensures
