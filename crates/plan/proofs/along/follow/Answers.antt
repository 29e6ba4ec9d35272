-- `plan::along::follow` meets its contract. Assumes nothing.
use Rattle.rules.specs.Placing.{next_step}
use Rattle.plan.specs.Along.{follow_stop, follow_on}
use Rattle.plan.proofs.along.follow.Goals as goal

pub returns-then-child-eq0-clause-way : goal.returns-then-child-eq0-clause-way
returns-then-child-eq0-clause-way c =
    let loop = c.loop-found in
    let next = next_step c.args.steps.now loop.found _ c.loop-found-test.true in
    follow_stop _ _ _ loop.invariant next c.live_child-child.ensures c.if-child-eq0.true

pub loop-found-preserved : goal.loop-found-preserved
loop-found-preserved c =
    let loop = c.loop-found in
    let next = next_step c.args.steps.now loop.found _ c.loop-found-test.true in
    follow_on _ _ _ loop.invariant next c.live_child-child.ensures c.if-child-eq0.false
