-- `plan::budget::converted` meets its contract. Assumes nothing.
use borrow.Author.Tests.{ne_eqb}
use Rattle.plan.proofs.budget.converted.Goals as goal

pub returns-then-room-eq0 : goal.returns-then-room-eq0
returns-then-room-eq0 c = rw (c.if-limit.true, c.if-room-eq0.true)

pub returns-then-room-eq0-2 : goal.returns-then-room-eq0-2
returns-then-room-eq0-2 c =
    let if1 = c.if-limit in
    rw (if1.true, ne_eqb _ _ c.if-room-eq0.false, c.if-room-eq0-2.true)

pub returns-else-room-eq0-2 : goal.returns-else-room-eq0-2
returns-else-room-eq0-2 c =
    let if1 = c.if-limit in
    rw (if1.true, ne_eqb _ _ c.if-room-eq0.false, ne_eqb _ _ c.if-room-eq0-2.false)

pub returns-else-limit : goal.returns-else-limit
returns-else-limit c = rw c.if-limit.false
