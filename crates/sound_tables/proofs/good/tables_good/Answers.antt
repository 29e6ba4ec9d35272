-- `sound_tables::good::tables_good` meets its contract. Assumes nothing.
use mathlib.Core.Bool.{not}
use mathlib.Core.Path.{ap}
use Rattle.store.specs.Layout.{parse}
use Rattle.store.specs.Scans.{stopped, went_on}
use Rattle.sound_tables.specs.Good.{table-entries, tables-from}
use Rattle.sound_tables.proofs.good.tables_good.Goals as goal

pub loop-done-init : goal.loop-done-init
loop-done-init c = tables-from _

pub returns-then-not-table_good : goal.returns-then-not-table_good
returns-then-not-table_good c =
    let args = c.args in
    let table-count = c.table_count-done-end in
    let loop = c.loop-done in
    let loop-test = c.loop-done-test in
    let table-good = c.table_good in
    stopped loop.invariant table-count.ensures loop-test.true
    (ap not (table-entries (parse args.image.now) _ table-good.ensures)) (ap not c.if-not-table_good.true)

pub loop-done-preserved : goal.loop-done-preserved
loop-done-preserved c =
    let args = c.args in
    let table-count = c.table_count-done-end in
    let loop = c.loop-done in
    let loop-test = c.loop-done-test in
    let table-good = c.table_good in
    went_on loop.invariant table-count.ensures loop-test.true
    (ap not (table-entries (parse args.image.now) _ table-good.ensures)) (ap not c.if-not-table_good.false)
