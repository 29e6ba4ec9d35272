-- `shared_shape::transition` meets its contract. Assumes nothing.
use Rattle.rules.specs.Replies.{handed_on}
use Rattle.shared_shape.specs.Transition.{Planned, plan_refused, planned, left_legal, left_pass}
use Rattle.shared_shape.specs.Transition.{limit_ready, limit_done}
use Rattle.shared_shape.proofs.transition.Goals as goal
use Rattle.shared_shape.proofs.transition.Goals.{In_ok-way}

-- What the plan says where it lets the steps pass.
way : (c : In_ok-way) → Planned c.args.image.now c.args.from c.args.list.now c.in_ok-way.way
way c =
    let pre = c.requires in
    planned c.args.image.now pre.sound c.args.from c.args.list.now pre.legal_steps
    c.plan_limited.ensures.planned c.in_ok-way.was

pub take_steps-n-requires-clause-legal_steps : goal.take_steps-n-requires-clause-legal_steps
take_steps-n-requires-clause-legal_steps c =
    left_legal (way (goal.at.take_steps-n-requires-clause-legal_steps c).In_ok-way)

pub take_steps-n-requires-clause-passes : goal.take_steps-n-requires-clause-passes
take_steps-n-requires-clause-passes c =
    left_pass (way (goal.at.take_steps-n-requires-clause-passes c).In_ok-way)

pub limited-requires : goal.limited-requires
limited-requires c =
    let its = way (goal.at.limited-requires c).In_ok-way in
    let both = limit_ready its _ _ c.take_steps-n.ensures c.requires.shared_at in
    record { formed = both.0; sound = both.1.0; shared_at = both.1.1 }

pub returns-in_err-way : goal.returns-in_err-way
returns-in_err-way c =
    let args = c.args in
    let pre = c.requires in
    rw (handed_on _ _ c.from_residual.ensures.1)
    (plan_refused args.image.now pre.sound args.from args.list.now pre.legal_steps c.plan_limited.ensures.planned
    c.in_err-way.was)

pub returns : goal.returns
returns c =
    limit_done (way (goal.at.returns c).In_ok-way) _ _ c.take_steps-n.ensures _ _ c.limited.ensures
