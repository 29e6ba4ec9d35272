-- `lines::reading::read_number` meets its contract. Assumes nothing.
use mathlib.Core.Path.{refl, sym, ◌∙◌}
use borrow.Author.Tests.{ne_eqb}
use Rattle.lines.specs.Reading.{stop_within, digit_big}
use Rattle.lines.proofs.reading.read_number.Goals as goal

pub returns-then-value-ge-BOUND : goal.returns-then-value-ge-BOUND
returns-then-value-ge-BOUND c =
    let going = sym (stop_within c.args.line.now c.loop-end-test.true) ∙ ne_eqb _ 32 c.if-byte-eq-SPACE.false in
    let digit = sym c.is_ascii_digit.ensures.value ∙ c.if-not-is_ascii_digit.false in
    digit_big c.loop-end.invariant refl going refl digit c.if-value-ge-BOUND.true
