-- `plan::budget::spend_all` meets its contract. Assumes nothing.
use Rattle.rules.specs.Placing.{next_step}
use Rattle.rules.specs.Replies.{handed_on}
use Rattle.plan.specs.Budget.{spend_refused, spend_on}
use Rattle.plan.proofs.budget.spend_all.Goals as goal

pub returns-in_err-left : goal.returns-in_err-left
returns-in_err-left c =
    let loop = c.loop-step in
    let next = next_step c.args.steps.now loop.step-index _ c.loop-step-test.true in
    rw (handed_on _ _ c.from_residual.ensures.1)
    (spend_refused _ _ loop.invariant next c.spend.ensures c.in_err-left.was)

pub loop-step-preserved : goal.loop-step-preserved
loop-step-preserved c =
    let loop = c.loop-step in
    let next = next_step c.args.steps.now loop.step-index _ c.loop-step-test.true in
    spend_on _ _ loop.invariant next c.spend.ensures c.in_ok-left.was
