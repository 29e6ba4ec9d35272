-- `sound_steps::children_follow` meets its contract. Assumes nothing.
use mathlib.Core.Path.{◌∙◌}
use Prim.Native.Nat.{◌+◌}
use native.Mathlib.Omega.{arith}
use lib.ListN.{length}
use Rattle.store.specs.Layout.{parse}
use Rattle.store.specs.Image.{Place}
use Rattle.store.specs.Scans.{stopped, went_on, ended}
use Rattle.sound_steps.specs.Children.{each-follows, follow-tested}
use Rattle.std.proofs.Common.{ap}
use Rattle.std.proofs.Common.{not}
use Rattle.sound_steps.proofs.children_follow.Goals as goal

pub child_follows-requires-clause-marked : goal.child_follows-requires-clause-marked
child_follows-requires-clause-marked c =
    let args = c.args in
    let edges-by-child = c.edges_by_child in
    let shape-count = c.shape_count-done-end in
    let loop = c.loop-done in
    let place : Place (length (parse args.image.now).shapes) (loop.done + 1)
    = record { low = omega arith; high = omega (arith, shape-count.ensures) } in
    let mark = edges-by-child.ensures.each (loop.done + 1) place in
    mark

pub returns-then-not-child_follows : goal.returns-then-not-child_follows
returns-then-not-child_follows c =
    let args = c.args in
    let loop = c.loop-done in
    let loop-test = c.loop-done-test in
    let shape-count = c.shape_count-done-end in
    let child-follows = c.child_follows in
    let m = parse args.image.now in
    stopped loop.invariant shape-count.ensures loop-test.true
    (follow-tested m loop.done child-follows.ensures) (ap not c.if-not-child_follows.true)
    ∙ each-follows m

pub loop-done-preserved : goal.loop-done-preserved
loop-done-preserved c =
    let args = c.args in
    let loop = c.loop-done in
    let loop-test = c.loop-done-test in
    let shape-count = c.shape_count-done-end in
    let child-follows = c.child_follows in
    went_on loop.invariant shape-count.ensures loop-test.true
    (follow-tested (parse args.image.now) loop.done child-follows.ensures) (ap not c.if-not-child_follows.false)

pub returns : goal.returns
returns c =
    let args = c.args in
    ended c.loop-done.invariant c.shape_count-done-end.ensures c.loop-done-test.false
    ∙ each-follows (parse args.image.now)
