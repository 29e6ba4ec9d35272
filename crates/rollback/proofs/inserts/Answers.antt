-- `rollback::inserts` meets its contract. Assumes nothing.
use borrow.Author.Tests.{eq-eqb, ne_eqb}
use Rattle.rollback.proofs.inserts.Goals as goal

pub returns-then-s-eq-INSERT : goal.returns-then-s-eq-INSERT
returns-then-s-eq-INSERT c = rw (eq-eqb _ _ c.if-s-eq-INSERT.true, c.last_entry-e.ensures)

pub returns-else-s-eq-INSERT : goal.returns-else-s-eq-INSERT
returns-else-s-eq-INSERT c = rw (ne_eqb _ _ c.if-s-eq-INSERT.false)
