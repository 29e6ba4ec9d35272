-- `soundness::is_sound` meets its contract. Assumes nothing.
use Rattle.soundness.specs.Parts.{test_failed, test_passed, header_fails, tables_fail, model_decides}
use Rattle.sound_tables.specs.Tidy.{tidy_formed}
use Rattle.store.specs.Layout.{limits_in, good_limits}
use Rattle.store.specs.ListLaws.{and_both}
use mathlib.Core.Path.{◌∙◌}
use Rattle.std.proofs.Common.{ap}
use Rattle.std.proofs.Common.{not}
use Rattle.soundness.proofs.is_sound.Goals as goal

pub returns-then-not-good_header : goal.returns-then-not-good_header
returns-then-not-good_header c =
    let args = c.args in
    let good-header = c.good_header in
    let if1 = c.if-not-good_header in
    header_fails args.image.now (test_failed good-header.result good-header.ensures (ap not if1.true))

pub returns-then-not-tidy_tables : goal.returns-then-not-tidy_tables
returns-then-not-tidy_tables c =
    let args = c.args in
    let good-header = c.good_header in
    let if1 = c.if-not-good_header in
    let tidy-tables = c.tidy_tables in
    let if2 = c.if-not-tidy_tables in
    tables_fail args.image.now (test_passed good-header.result good-header.ensures (ap not if1.false))
    (test_failed tidy-tables.result tidy-tables.ensures (ap not if2.true))

pub model_is_sound-requires : goal.model_is_sound-requires
model_is_sound-requires c =
    let args = c.args in
    let good-header = c.good_header in
    let if1 = c.if-not-good_header in
    let tidy-tables = c.tidy_tables in
    let if2 = c.if-not-tidy_tables in
    let headed =
    and_both (good_limits (limits_in args.image.now))
    (test_passed good-header.result good-header.ensures (ap not if1.false)) in
    tidy_formed args.image.now headed.0 headed.1
    (test_passed tidy-tables.result tidy-tables.ensures (ap not if2.false))

pub returns : goal.returns
returns c =
    let model-is-sound = c.model_is_sound in
    let args = c.args in
    let good-header = c.good_header in
    let if1 = c.if-not-good_header in
    let tidy-tables = c.tidy_tables in
    let if2 = c.if-not-tidy_tables in
    model-is-sound.ensures
    ∙ model_decides args.image.now
    (test_passed good-header.result good-header.ensures (ap not if1.false))
    (test_passed tidy-tables.result tidy-tables.ensures (ap not if2.false))
