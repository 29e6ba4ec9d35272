-- `soundness::fields_are_sound` meets its contract. Assumes nothing.
use Rattle.soundness.specs.Parts.{test_failed, test_passed, fields_sound, all_three}
use Rattle.std.proofs.Common.{ap}
use Rattle.std.proofs.Common.{not}
use Rattle.soundness.proofs.fields_are_sound.Goals as goal

pub returns-then-not-in_range : goal.returns-then-not-in_range
unfolding fields_sound
returns-then-not-in_range c = rw (test_failed c.in_range.result c.in_range.ensures (ap not c.if-not-in_range.true))

pub returns-then-not-shapes_good : goal.returns-then-not-shapes_good
unfolding fields_sound
returns-then-not-shapes_good c =
    let in_range_lem = c.in_range in
    let if1 = c.if-not-in_range in
    let shapes_good = c.shapes_good in
    rw (
      test_passed in_range_lem.result in_range_lem.ensures (ap not if1.false),
      test_failed shapes_good.result shapes_good.ensures (ap not c.if-not-shapes_good.true),
    )

pub returns : goal.returns
unfolding fields_sound
returns c =
    let in_range_lem = c.in_range in
    let if1 = c.if-not-in_range in
    let shapes_good = c.shapes_good in
    let if2 = c.if-not-shapes_good in
    let tables-good = c.tables_good in
    let free-are-zero = c.free_are_zero in
    let tables-used = c.tables_used in
    rw (
      test_passed in_range_lem.result in_range_lem.ensures (ap not if1.false),
      test_passed shapes_good.result shapes_good.ensures (ap not if2.false),
    )
    (all_three tables-good.ensures free-are-zero.ensures tables-used.ensures)
