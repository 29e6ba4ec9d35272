-- `plan::plan_limited` meets its contract. Assumes nothing.
use Rattle.std.specs.Prelude.{length, map}
use borrow.Author.Tests.{eqb-true, not-true}
use lib.Dec.{eqb}
use Rattle.store.specs.Layout.{parse}
use Rattle.store.specs.ListLaws.{and_both}
use Rattle.rules.specs.Placing.{step_in}
use Rattle.rules.specs.Replies.{handed_on}
use Rattle.plan.specs.LiveSteps.{followed_used}
use Rattle.plan.specs.Answers.{nothing_new, plan_refused, conversion_refused, plan-passes}
use Rattle.plan.proofs.plan_limited.Goals as goal

pub returns-then-way-steps-clause-planned : goal.returns-then-way-steps-clause-planned
returns-then-way-steps-clause-planned c =
    let args = c.args in
    let follow = c.follow-way in
    let all_found = eqb follow.result.found (length args.steps.now) in
    let (found, no-limit) = and_both all_found c.if-way-steps.true in
    nothing_new args.steps.now _ _ follow.ensures.way (eqb-true _ _ found) c.at_limit-limit.ensures
    (not-true _ no-limit)

pub plan_new-requires-clause-used : goal.plan_new-requires-clause-used
plan_new-requires-clause-used c =
    let args = c.args in
    let pre = c.requires in
    rw c.follow-way.ensures.way
    (followed_used (map step_in args.steps.now) (parse args.image.now) pre.sound args.from pre.from_value)

pub returns-in_err-room-clause-planned : goal.returns-in_err-room-clause-planned
returns-in_err-room-clause-planned c =
    rw (handed_on _ _ c.from_residual.ensures.1)
    (plan_refused c.args.steps.now _ _ c.follow-way.ensures.way c.plan_new.ensures c.in_err-room.was)

pub returns-in_err-converted-clause-planned : goal.returns-in_err-converted-clause-planned
returns-in_err-converted-clause-planned c =
    rw (handed_on _ _ c.from_residual-in_err-converted.ensures.1)
    (conversion_refused c.args.steps.now _ _ c.follow-way.ensures.way c.plan_new.ensures c.at_limit-limit.ensures
    c.in_ok-room.was c.converted.ensures c.in_err-converted.was)

pub returns-clause-planned : goal.returns-clause-planned
returns-clause-planned c =
    plan-passes c.args.steps.now _ _ c.follow-way.ensures.way c.plan_new.ensures c.at_limit-limit.ensures
    c.in_ok-room.was c.converted.ensures c.in_ok-converted.was
