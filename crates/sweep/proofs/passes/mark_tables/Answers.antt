-- `sweep::passes::mark_tables` meets its contract. Assumes nothing.
use native.Mathlib.Numerals.{add-one}
use native.Mathlib.Omega.{arith}
use Rattle.store.specs.Model.{no_shape, shape_at}
use Rattle.sweep.specs.Users.{users-next}
use Rattle.sweep.proofs.passes.mark_tables.Goals as goal

pub loop-done-preserved : goal.loop-done-preserved
unfolding shape_at
loop-done-preserved c =
    let loop = c.loop-done in
    let shape-count = c.shape_count-count in
    let mark-table = c.mark_table in
    users-next loop.invariant no_shape (omega (arith, shape-count.ensures)) (rw add-one) mark-table.ensures
