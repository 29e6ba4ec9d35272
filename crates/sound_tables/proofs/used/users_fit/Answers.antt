-- `sound_tables::used::users_fit` meets its contract. Assumes nothing.
use Rattle.store.specs.Layout.{parse}
use Rattle.sound_tables.specs.Used.{unused-table, uniques_decide}
use Rattle.sound_tables.proofs.used.users_fit.Goals as goal

pub returns-then-not-every_table_used : goal.returns-then-not-every_table_used
returns-then-not-every_table_used c =
    let args = c.args in
    let every-table-used = c.every_table_used in
    unused-table (parse args.image.now) every-table-used.ensures (c.if-not-every_table_used.true)

pub returns : goal.returns
returns c =
    let args = c.args in
    let every-table-used = c.every_table_used in
    let if1 = c.if-not-every_table_used in
    uniques_decide (parse args.image.now) every-table-used.ensures (if1.false)
    c.every_unique_alone.ensures
