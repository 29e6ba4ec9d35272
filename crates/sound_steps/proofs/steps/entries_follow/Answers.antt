-- `sound_steps::steps::entries_follow` meets its contract. Assumes nothing.
use Rattle.sound_steps.specs.StepLaws.{insert_differs, insert_follows, others_differ, others-follow}
use Rattle.store.specs.Tables.{entries_fit}
use native.Mathlib.Omega.{arith}
use Rattle.sound_steps.proofs.steps.entries_follow.Goals as goal

pub overflow_add-before : goal.overflow_add-before
overflow_add-before c =
    let pre = c.requires in
    let args = c.args in
    omega (arith, pre.tabled.fits, entries_fit pre.formed args.p.table, pre.formed.limited.keys)

pub returns-then-s-before : goal.returns-then-s-before
returns-then-s-before c =
    let pre = c.requires in
    let args = c.args in
    let if1 = c.if-s-eq-INSERT in
    let if2 = c.if-s-before in
    insert_differs pre.tabled pre.tabled_2 args.edge if1.true if2.true

pub returns-then-s-eq-INSERT : goal.returns-then-s-eq-INSERT
returns-then-s-eq-INSERT c =
    let pre = c.requires in
    let args = c.args in
    let if1 = c.if-s-eq-INSERT in
    let if2 = c.if-s-before in
    let same_first = c.same_first in
    let get-entry = c.get_entry-last in
    insert_follows pre.tabled pre.tabled_2 args.edge if1.true if2.false same_first.ensures
    get-entry.ensures

pub returns-then-s-before-2 : goal.returns-then-s-before-2
returns-then-s-before-2 c =
    let pre = c.requires in
    let args = c.args in
    let if1 = c.if-s-eq-INSERT in
    let if3 = c.if-s-before-2 in
    others_differ pre.tabled pre.tabled_2 args.edge if1.false if3.true

pub returns : goal.returns
returns c =
    let pre = c.requires in
    let args = c.args in
    let if1 = c.if-s-eq-INSERT in
    let if3 = c.if-s-before-2 in
    let same-first2 = c.same_first-2 in
    others-follow pre.tabled pre.tabled_2 args.edge if1.false if3.false same-first2.ensures
