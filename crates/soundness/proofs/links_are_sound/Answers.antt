-- `soundness::links_are_sound` meets its contract. Assumes nothing.
use Rattle.store.specs.Layout.{parse}
use Rattle.rules.specs.Sound.{children_linked}
use Rattle.store.specs.ListLaws.{and_both}
use Rattle.soundness.specs.Parts.{test_failed, test_passed, link_parts, tables_known, free_known}
use Rattle.std.proofs.Common.{ap}
use Rattle.std.proofs.Common.{not}
use Rattle.soundness.proofs.links_are_sound.Goals as goal

pub children_follow-requires-clause-tables_known : goal.children_follow-requires-clause-tables_known
children_follow-requires-clause-tables_known c =
    let pre = c.requires in
    tables_known _ pre.image_value

pub returns-then-not-children_follow : goal.returns-then-not-children_follow
returns-then-not-children_follow c =
    let children-follow = c.children_follow in
    rw (link_parts, test_failed children-follow.result children-follow.ensures (ap not c.if-not-children_follow.true))

pub edges_good-requires-clause-steps_known : goal.edges_good-requires-clause-steps_known
edges_good-requires-clause-steps_known c =
    let args = c.args in
    let pre = c.requires in
    let children-follow = c.children_follow in
    let children = test_passed children-follow.result children-follow.ensures (ap not c.if-not-children_follow.false) in
    let stepped = (and_both (children_linked (parse args.image.now)) children).1 in
    record { tables = tables_known _ pre.image_value; stepped = stepped }

pub returns-then-not-edges_good : goal.returns-then-not-edges_good
returns-then-not-edges_good c =
    let children-follow = c.children_follow in
    let if1 = c.if-not-children_follow in
    let edges_good_lem = c.edges_good in
    rw (
      link_parts,
      test_passed children-follow.result children-follow.ensures (ap not if1.false),
      test_failed edges_good_lem.result edges_good_lem.ensures (ap not c.if-not-edges_good.true),
    )

pub edges_differ-requires-clause-edges_known : goal.edges_differ-requires-clause-edges_known
edges_differ-requires-clause-edges_known c =
    let pre = c.requires in
    let edges_good_lem = c.edges_good in
    let if2 = c.if-not-edges_good in
    let good = test_passed edges_good_lem.result edges_good_lem.ensures (ap not if2.false) in
    let known = tables_known _ pre.image_value in
    record { ranges = known.ranges; zero = free_known _ pre.image_value; good = good }

pub returns : goal.returns
returns c =
    let children-follow = c.children_follow in
    let if1 = c.if-not-children_follow in
    let edges_good_lem = c.edges_good in
    let if2 = c.if-not-edges_good in
    let edges-differ = c.edges_differ in
    rw (
      link_parts,
      test_passed children-follow.result children-follow.ensures (ap not if1.false),
      test_passed edges_good_lem.result edges_good_lem.ensures (ap not if2.false),
    )
    edges-differ.ensures
