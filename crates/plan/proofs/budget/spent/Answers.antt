-- `plan::budget::spent` meets its contract. Assumes nothing.
use native.Mathlib.Omega.{arith}
use Rattle.rules.specs.Placing.{step_in}
use Rattle.plan.specs.Budget.{enough_keys, spent-each}
use Rattle.plan.proofs.budget.spent.Goals as goal

pub overflow_sub-result : goal.overflow_sub-result
overflow_sub-result c =
    let args = c.args in
    let few = enough_keys (step_in args.step) args.room c.requires in
    omega (arith, c.added.ensures)

pub overflow_sub-result-2 : goal.overflow_sub-result-2
overflow_sub-result-2 c =
    let pre = c.requires in
    let some = pre.shapes in omega arith

pub overflow_sub-result-3 : goal.overflow_sub-result-3
overflow_sub-result-3 c =
    let pre = c.requires in
    let some = pre.edges in omega arith

pub returns : goal.returns
returns c =
    let args = c.args in
    let added = c.added in
    spent-each (step_in args.step) args.room added.ensures c.tables_left.ensures
    c.whole_after.ensures
