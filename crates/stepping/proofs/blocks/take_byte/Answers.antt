-- `stepping::blocks::take_byte` meets its contract. Assumes nothing.
use mathlib.Core.Path.{refl}
use Rattle.stepping.specs.Taking.{took_end, took_byte}
use Rattle.stepping.proofs.blocks.take_byte.Goals as goal

pub returns-then-byte-eq10 : goal.returns-then-byte-eq10
returns-then-byte-eq10 c =
    let args = c.args in
    let answer = rw c.text.ensures at c.write_answer.ensures in
    took_end args.image.now args.line.now args.answers.now refl c.requires.line_len refl c.if-byte-eq10.true answer

pub returns-else-byte-eq10 : goal.returns-else-byte-eq10
returns-else-byte-eq10 c =
    let args = c.args in
    let keep = c.keep_byte.ensures in
    took_byte args.image.now args.line.now args.answers.now c.requires.ready keep.same_reference
    c.if-byte-eq10.false keep.kept
