-- `stepping::blocks::write_answer` meets its contract. Assumes nothing.
use Rattle.stepping.specs.Taking.{line-written}
use Rattle.stepping.proofs.blocks.write_answer.Goals as goal

pub returns : goal.returns
returns c = line-written c.answer_line-n.ensures c.write_reply.ensures
