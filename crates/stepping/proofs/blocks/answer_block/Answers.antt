-- `stepping::blocks::answer_block` meets its contract. Assumes nothing.
use Rattle.stepping.specs.Taking.{none-taken, one_more}
use Rattle.stepping.proofs.blocks.answer_block.Goals as goal

pub loop-byte-init : goal.loop-byte-init
loop-byte-init c =
    let pre = c.requires in
    none-taken _ _ _ _ pre.ready pre.line_len pre.begun_bound

pub loop-byte-preserved : goal.loop-byte-preserved
loop-byte-preserved c = one_more _ _ _ _ _ c.loop-byte.invariant c.loop-byte-test.true c.take_byte.ensures
