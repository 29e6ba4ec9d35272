-- `sweep::passes::sweep_shape` meets its contract. Assumes nothing.
use Rattle.store.specs.Model.{shape_at, put_shape}
use Rattle.store.specs.Passes.{of_shapes, stays}
use Rattle.sweep.proofs.passes.sweep_shape.Goals as goal

pub returns-then-is_marked : goal.returns-then-is_marked
unfolding shape_at put_shape
returns-then-is_marked c =
    let is-marked = c.is_marked in
    let if1 = c.if-is_marked in
    let args = c.args in
    let pre = c.requires in
    rw (← is-marked.ensures, if1.true) (stays of_shapes args.n pre.formed)
