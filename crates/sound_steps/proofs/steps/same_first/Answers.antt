-- `sound_steps::steps::same_first` meets its contract. Assumes nothing.
use borrow.Author.Tests.{eqb-true, not-true}
use Rattle.sound_steps.specs.StepLaws.{one_table, compare_on, compare_fails, compare_all}
use mathlib.Core.Bool.{not}
use Rattle.store.specs.ListLaws.{and_both}
use Rattle.store.specs.Layout.{parse}
use Rattle.sound_steps.proofs.steps.same_first.Goals as goal

pub returns-then-configures-p : goal.returns-then-configures-p
returns-then-configures-p c =
    let args = c.args in
    let (never, same) = and_both (not args.configures) c.if-configures-p.true in
    one_table (parse args.image.now) args.p args.s args.edge (not-true args.configures never)
    (eqb-true args.p.table args.s.table same)

pub returns-then-not-is_same : goal.returns-then-not-is_same
returns-then-not-is_same c =
    let if3 = c.if-not-is_same in
    let is_same = c.is_same in
    let entry-after = c.entry_after in
    let get-entry2 = c.get_entry-new in
    let get-entry = c.get_entry-old in
    let if2 = c.loop-at-test in
    let loop = c.loop-at in
    let args = c.args in
    let pre = c.requires in
    compare_fails pre.tabled pre.tabled_2 pre.properties_le_properties args.edge args.configures loop.invariant
    if2.true get-entry.ensures get-entry2.ensures entry-after.ensures is_same.ensures
    (if3.true)

pub loop-at-preserved : goal.loop-at-preserved
loop-at-preserved c =
    let if3 = c.if-not-is_same in
    let is_same = c.is_same in
    let entry-after = c.entry_after in
    let get-entry2 = c.get_entry-new in
    let get-entry = c.get_entry-old in
    let if2 = c.loop-at-test in
    let loop = c.loop-at in
    let args = c.args in
    let pre = c.requires in
    compare_on pre.tabled pre.tabled_2 pre.properties_le_properties args.edge args.configures loop.invariant
    if2.true get-entry.ensures get-entry2.ensures entry-after.ensures is_same.ensures
    (if3.false)

pub returns : goal.returns
returns c =
    let pre = c.requires in
    let args = c.args in
    let loop = c.loop-at in
    let if2 = c.loop-at-test in
    compare_all pre.tabled pre.tabled_2 pre.properties_le_properties args.edge args.configures loop.invariant
    if2.false
