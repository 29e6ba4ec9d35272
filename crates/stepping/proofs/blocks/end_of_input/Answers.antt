-- `stepping::blocks::end_of_input` meets its contract. Assumes nothing.
use Rattle.stepping.specs.Taking.{ends_silent, ends-told}
use Rattle.stepping.proofs.blocks.end_of_input.Goals as goal

pub returns-then-begun-eq0-clause-written : goal.returns-then-begun-eq0-clause-written
returns-then-begun-eq0-clause-written c = ends_silent c.args.begun c.args.out.now c.if-begun-eq0.true

pub returns-clause-written : goal.returns-clause-written
returns-clause-written c =
    ends-told c.args.begun c.if-begun-eq0.false c.bad_line-n.ensures c.write_reply.ensures.written
