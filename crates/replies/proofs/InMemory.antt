-- How a reply lies in memory, where C reads it: its numbers in the order of C's struct, four bytes each, with nothing
-- between them. `mir` and `lowered` are the struct and a reply as the machine of the logic has them.
-- Assumes nothing.
use mathlib.Core.Path.{◌≡◌, refl}
use mathlib.Core.List.{◌++◌}
use prog.Memory.{enc, le}
use Rattle.replies.specs.declared.ReplyNumbers.{ReplyNumbers}
use Rattle.replies.proofs.ReplyNumbers.TheLaws.{mir, lowered}

pub in_memory : (n : ReplyNumbers)
    → enc mir (lowered n) ≡ le 4 n.refusal ++ le 4 n.first ++ le 4 n.second ++ le 4 n.third
in_memory n = refl
