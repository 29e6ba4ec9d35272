-- `rollback::rollback_before` meets its contract. Assumes nothing.
use mathlib.Core.Path.{refl, sym, ◌∙◌}
use borrow.Author.Rules.{rules}
use Rattle.rollback.specs.WalkBack.{shared-place, walk_start, walk_tabled, walk-room}
use Rattle.rollback.specs.WalkBack.{walk_previous, walk-less, walk-next, walk_done}
use Rattle.rollback.proofs.rollback_before.Goals as goal

pub get_shape-s-requires-clause-place : goal.get_shape-s-requires-clause-place
get_shape-s-requires-clause-place c =
    let pre = c.requires in
    shared-place _ _ pre.shared_at

pub loop-newest-init : goal.loop-newest-init
loop-newest-init c =
    let pre = c.requires in
    walk_start pre.shared_at pre.n_value c.get_shape-s.ensures refl

pub inserts-requires-clause-tabled : goal.inserts-requires-clause-tabled
inserts-requires-clause-tabled c =
    let pre = c.requires in
    walk_tabled pre.sound c.loop-newest.invariant

pub yield_last-start-requires-clause-tabled : goal.yield_last-start-requires-clause-tabled
yield_last-start-requires-clause-tabled c =
    let pre = c.requires in
    let walked = c.loop-newest.invariant in
    walk_tabled pre.sound walked

pub yield_last-start-requires-clause-le_start : goal.yield_last-start-requires-clause-le_start
yield_last-start-requires-clause-le_start c =
    let pre = c.requires in
    let walked = c.loop-newest.invariant in
    let room = walk-room pre.sound walked pre.shared_at pre.in_bounds in
    room

pub yield_last-start-requires-clause-start_in_bounds : goal.yield_last-start-requires-clause-start_in_bounds
yield_last-start-requires-clause-start_in_bounds c =
    let walked = c.loop-newest.invariant in
    walked.inside

pub get_shape-s-requires-in-loop-newest-clause-place : goal.get_shape-s-requires-in-loop-newest-clause-place
get_shape-s-requires-in-loop-newest-clause-place c =
    let loop = c.loop-newest in
    let pre = c.requires in
    walk_previous pre.sound loop.invariant

pub loop-newest-smaller : goal.loop-newest-smaller
loop-newest-smaller c =
    let loop = c.loop-newest in
    let pre = c.requires in
    walk-less pre.sound loop.invariant c.get_shape-s-in-loop-newest.ensures

pub loop-newest-preserved : goal.loop-newest-preserved
loop-newest-preserved c =
    let loop = c.loop-newest in
    let pre = c.requires in
    let tested = c.inserts in
    let if1 = c.loop-newest-test in
    let remembered = c.remember-newest in
    let yielded = c.yield_last-start in
    walk-next pre.sound loop.invariant (sym tested.ensures ∙ if1.true) remembered.ensures
    yielded.ensures (search rules) c.get_shape-s-in-loop-newest.ensures

pub shape_of-steps : goal.shape_of-steps
shape_of-steps c = c.loop-newest.invariant.long

pub returns-clause-base_value : goal.returns-clause-base_value
returns-clause-base_value c =
    let loop = c.loop-newest in
    let pre = c.requires in
    let is = sym c.inserts.ensures ∙ c.loop-newest-test.false in
    rw (walk_done pre.sound loop.invariant is) refl

pub returns-clause-newest_after : goal.returns-clause-newest_after
returns-clause-newest_after c =
    let loop = c.loop-newest in
    let pre = c.requires in
    let is = sym c.inserts.ensures ∙ c.loop-newest-test.false in
    rw (walk_done pre.sound loop.invariant is) refl

pub returns-clause-steps_from : goal.returns-clause-steps_from
returns-clause-steps_from c =
    let loop = c.loop-newest in
    let pre = c.requires in
    let is = sym c.inserts.ensures ∙ c.loop-newest-test.false in
    rw (walk_done pre.sound loop.invariant is) (record { inside = loop.invariant.inside; steps = refl })
