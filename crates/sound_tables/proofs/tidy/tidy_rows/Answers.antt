-- `sound_tables::tidy::tidy_rows` meets its contract. Assumes nothing.
use Rattle.sound_tables.specs.Tidy.{row_tidy}
use Rattle.store.specs.Rows.{length-rows}
use mathlib.Core.Path.{sym, ap, ◌∙◌}
use mathlib.Core.Bool.{not}
use Rattle.store.specs.Scans.{stopped, went_on, ended}
use Rattle.sound_tables.proofs.tidy.tidy_rows.Goals as goal

pub returns-then-not-tidy_table : goal.returns-then-not-tidy_table
returns-then-not-tidy_table c =
    let loop = c.loop-done in
    let loop-test = c.loop-done-test in
    let tidy-table = c.tidy_table in
    let row = c.row in
    let if1 = c.if-not-tidy_table in
    stopped loop.invariant (sym (length-rows _ _ _)) loop-test.true
    (ap not (tidy-table.ensures ∙ row_tidy _ _ _ _ _ loop-test.true row.ensures)) (ap not if1.true)

pub loop-done-preserved : goal.loop-done-preserved
loop-done-preserved c =
    let loop = c.loop-done in
    let loop-test = c.loop-done-test in
    let tidy-table = c.tidy_table in
    let row = c.row in
    let if1 = c.if-not-tidy_table in
    went_on loop.invariant (sym (length-rows _ _ _)) loop-test.true
    (ap not (tidy-table.ensures ∙ row_tidy _ _ _ _ _ loop-test.true row.ensures)) (ap not if1.false)

pub returns : goal.returns
returns c = ended c.loop-done.invariant (sym (length-rows _ _ _)) c.loop-done-test.false
