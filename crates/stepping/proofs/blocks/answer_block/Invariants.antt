-- `stepping::blocks::answer_block` meets its contract. Assumes nothing.
use Rattle.stepping.specs.Taking.{TakenTo}
use Rattle.stepping.proofs.blocks.answer_block.Given as goal

abbrev pub invariant-loop-byte : goal.invariant-loop-byte
invariant-loop-byte l =
    TakenTo l.initial.image l.initial.kept l.initial.answers l.block l.image l.kept l.answers l.byte-index
