-- `rollback::push` meets its contract. Assumes nothing.
use Rattle.rollback.specs.StepsFrom.{step_pushed}
use Rattle.rollback.proofs.push.Goals as goal

pub returns : goal.returns
returns c =
    let pre = c.requires in
    step_pushed c.args.steps.now c.args.step pre.le_start pre.start_in_bounds
