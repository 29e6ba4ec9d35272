-- `drawing::words::write_key` meets its contract. Assumes nothing.
use native.Mathlib.Omega.{arith}
use Rattle.std.proofs.Common.{◌≢◌, ◌/◌, ◌%◌}
use borrow.Author.Tests.{eq-eqb, ne_eqb}
use Rattle.lines.specs.Decimal.{ten_digits}
use Rattle.lines.specs.Pages.{adds_within}
use Rattle.drawing.specs.Graph.{key_text}
use Rattle.drawing.proofs.words.write_key.Goals as goal

pub write_number-requires : goal.write_number-requires
write_number-requires c = omega (arith, c.requires, ten_digits (c.args.key % 1073741824) (omega arith))

pub returns-in-0 : goal.returns-in-0
unfolding key_text
returns-in-0 c = rw (eq-eqb _ 0 c.in-0.is) (adds_within 17 (omega arith) c.write_number.ensures)

pub returns-in-1 : goal.returns-in-1
unfolding key_text
returns-in-1 c =
    let not0 : c.args.key / 1073741824 ≢ 0 = omega (arith, c.in-1.is) in
    rw (ne_eqb _ 0 not0, eq-eqb _ 1 c.in-1.is) c.write_numbered.ensures

pub returns-in_default : goal.returns-in_default
unfolding key_text
returns-in_default c =
    let not0 : c.args.key / 1073741824 ≢ 0 = omega arith in
    let not1 : c.args.key / 1073741824 ≢ 1 = omega arith in
    rw (ne_eqb _ 0 not0, ne_eqb _ 1 not1) (adds_within 17 (omega arith) c.write_numbered-in_default.ensures)
