-- `rollback::removal_steps` meets its contract. Assumes nothing.
use native.Mathlib.Omega.{arith}
use borrow.Author.Rules.{rules}
use Rattle.store.specs.Layout.{parse}
use Rattle.rollback.specs.StepsFrom.{places_left}
use Rattle.rollback.specs.WalkBack.{remembered_few}
use Rattle.rollback.proofs.removal_steps.Goals as goal

pub push_newest-start-requires-clause-newest_len_bound : goal.push_newest-start-requires-clause-newest_len_bound
push_newest-start-requires-clause-newest_len_bound c =
    let args = c.args in
    let pre = c.requires in
    let back = c.rollback_before-back.ensures in
    let few = remembered_few (parse args.image.now) pre.sound args.n args.key
    pre.shared_at pre.n_value in
    rw back.newest_after (places_left args.room.now back.steps_from (search rules) pre.in_bounds (omega arith))

pub push_newest-start-requires-clause-start_in_bounds : goal.push_newest-start-requires-clause-start_in_bounds
push_newest-start-requires-clause-start_in_bounds c = c.rollback_before-back.ensures.steps_from.inside

pub returns-clause-steps_from : goal.returns-clause-steps_from
returns-clause-steps_from c =
    let back = c.rollback_before-back.ensures in
    rw (back.newest_after, back.steps_from.steps) at c.push_newest-start.ensures
