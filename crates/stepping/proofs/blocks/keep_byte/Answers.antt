-- `stepping::blocks::keep_byte` meets its contract. Assumes nothing.
use Rattle.stepping.specs.Taking.{byte_dropped, byte_kept}
use Rattle.stepping.proofs.blocks.keep_byte.Goals as goal

pub returns-then-line-eq65-clause-kept : goal.returns-then-line-eq65-clause-kept
returns-then-line-eq65-clause-kept c =
    let line = c.args.line.now in
    byte_dropped line.bytes.now line.end c.args.byte c.requires.line_len c.if-line-eq65.true

pub returns-clause-kept : goal.returns-clause-kept
returns-clause-kept c =
    let line = c.args.line.now in
    let written = c.write_byte.ensures.written in
    rw (written.stored, written.ended)
    (byte_kept line.bytes.now line.end c.args.byte c.requires.line_len c.requires.begun_bound c.if-line-eq65.false)
