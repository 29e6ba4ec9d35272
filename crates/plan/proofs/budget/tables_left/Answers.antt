-- `plan::budget::tables_left` meets its contract. Assumes nothing.
use native.Mathlib.Omega.{arith}
use borrow.Author.Tests.{eqb-false}
use Rattle.plan.proofs.budget.tables_left.Goals as goal

pub overflow_sub-result : goal.overflow_sub-result
overflow_sub-result c =
    let args = c.args in
    let pre = c.requires in
    let some = eqb-false args.room.tables 0 (rw (← c.copies.ensures, c.if-copies.true) at (pre)) in
    omega arith

pub returns-then-copies : goal.returns-then-copies
returns-then-copies c = rw (← c.copies.ensures, c.if-copies.true)

pub returns : goal.returns
returns c = rw (← c.copies.ensures, c.if-copies.false)
