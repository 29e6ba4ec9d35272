-- `rollback::remember` meets its contract. Assumes nothing.
use borrow.Author.Tests.{eq-eqb, ne_eqb}
use Rattle.rollback.proofs.remember.Goals as goal

pub returns-in-Some : goal.returns-in-Some
returns-in-Some c = rw c.in-Some.is

pub returns-then-s-eq-PROTOTYPE : goal.returns-then-s-eq-PROTOTYPE
returns-then-s-eq-PROTOTYPE c = rw (c.in_default.is, eq-eqb _ _ c.if-s-eq-PROTOTYPE.true)

pub returns : goal.returns
returns c = rw (c.in_default.is, ne_eqb _ _ c.if-s-eq-PROTOTYPE.false)
