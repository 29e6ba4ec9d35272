-- `sweep::passes::mark_table` meets its contract. Assumes nothing.
use Rattle.sweep.specs.Users.{table-marked}
use Rattle.sweep.proofs.passes.mark_table.Goals as goal

pub returns-then-s-ne-FREE : goal.returns-then-s-ne-FREE
returns-then-s-ne-FREE c =
    let get-shape = c.get_shape-s in
    let if1 = c.if-s-ne-FREE in
    let mark = c.mark in
    rw (← get-shape.ensures) (table-marked if1.true mark.ensures)
