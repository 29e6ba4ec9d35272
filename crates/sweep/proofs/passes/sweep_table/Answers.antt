-- `sweep::passes::sweep_table` meets its contract. Assumes nothing.
use Rattle.store.specs.Model.{table_at, put_table}
use Rattle.store.specs.Passes.{of_tables, stays}
use Rattle.sweep.proofs.passes.sweep_table.Goals as goal

pub returns-then-is_marked : goal.returns-then-is_marked
unfolding table_at put_table
returns-then-is_marked c =
    let is-marked = c.is_marked in
    let if1 = c.if-is_marked in
    let args = c.args in
    let pre = c.requires in
    rw (← is-marked.ensures, if1.true) (stays of_tables args.t pre.formed)
