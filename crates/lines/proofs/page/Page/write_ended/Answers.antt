-- `lines::page::Page::write_ended` meets its contract. Assumes nothing.
use native.Mathlib.Omega.{arith}
use Rattle.lines.specs.Decimal.{ten_digits}
use Rattle.lines.specs.Pages.{adds_then}
use Rattle.lines.proofs.page.Page.write_ended.Goals as goal

pub write_number-requires : goal.write_number-requires
write_number-requires c = omega (arith, ten_digits c.args.number c.ranges.number.fits)

pub returns : goal.returns
returns c = adds_then c.write_number.ensures c.write_byte.ensures
