-- `runner::answer_input` meets its contract. Assumes nothing.
use Rattle.std.proofs.Common.{rules}
use Rattle.runner.specs.Whole.{whole_answered, stopped_left}
use Rattle.runner.proofs.answer_input.Goals as goal

pub returns-in_err-begun-clause-left : goal.returns-in_err-begun-clause-left
returns-in_err-begun-clause-left g c = stopped_left c.format_image.ensures c.replay.ensures.stopped

pub returns-clause-ok : goal.returns-clause-ok
returns-clause-ok g c =
    let last = c.end_of_input.ensures in
    whole_answered c.format_image.ensures c.in_ok-begun.ensures.ok last.written (search rules) (search rules)

pub returns-clause-left : goal.returns-clause-left
returns-clause-left g c = stopped_left c.format_image.ensures c.replay.ensures.stopped
