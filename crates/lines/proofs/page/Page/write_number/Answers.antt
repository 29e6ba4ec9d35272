-- `lines::page::Page::write_number` meets its contract. Assumes nothing.
use Rattle.std.proofs.Common.{refl}
use native.Mathlib.Omega.{arith}
use Rattle.lines.specs.Decimal.{digits_some}
use Rattle.lines.specs.Pages.{adds_number}
use Rattle.lines.proofs.page.Page.write_number.Goals as goal

pub write_number-self-requires : goal.write_number-self-requires
write_number-self-requires c = omega (arith, c.requires, digits_some c.args.n)

pub returns : goal.returns
returns c = adds_number c.args.n c.ranges.n.fits refl c.write_number-self.ensures
