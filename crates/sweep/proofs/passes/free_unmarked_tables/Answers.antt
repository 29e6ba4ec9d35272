-- `sweep::passes::free_unmarked_tables` meets its contract. Assumes nothing.
use mathlib.Core.Path.{◌∙◌}
use Prim.Native.Nat.{◌+◌}
use native.Mathlib.Omega.{arith}
use Rattle.std.specs.Prelude.{if◌then◌else◌}
use Rattle.store.specs.Lists.{any}
use Rattle.store.specs.Model.{Table, free, table_at, put_table}
use Rattle.store.specs.Layout.{parse}
use Rattle.rules.specs.Sound.{uses}
use Rattle.sweep.specs.Marks.{marked}
use Rattle.store.specs.Passes.{of_tables, pass_start, pass_next}
use Rattle.sweep.specs.Passes.{kept_long, kept_at}
use Rattle.sweep.proofs.passes.free_unmarked_tables.Goals as goal

pub loop-done-init : goal.loop-done-init
loop-done-init c =
    let pre = c.requires in
    let args = c.args in
    pass_start of_tables _ pre.formed
    (kept_long (λ t. any (uses t) (parse args.image.now).shapes) free
    (parse args.image.now).tables)

pub loop-done-preserved : goal.loop-done-preserved
unfolding table_at put_table
loop-done-preserved c =
    let loop = c.loop-done in
    let args = c.args in
    let table-count = c.table_count-count in
    let pre = c.requires in
    let sweep-table = c.sweep_table in
    pass_next of_tables loop.invariant
    (λ (x : Table). if marked args.users.now (loop.done + 1) then x else free)
    (omega (arith, table-count.ensures))
    (kept_at (λ t. any (uses t) (parse args.image.now).shapes) free (parse args.image.now).tables
    loop.done
    ∙ rw (← (pre.by_index (loop.done + 1) (omega (arith, table-count.ensures))))) sweep-table.ensures
