-- `child_table::child_table` meets its contract. Assumes nothing.
use Rattle.std.proofs.Common.{ap}
use Rattle.rules.specs.Placing.{step_in}
use Rattle.child_table.specs.Parents.{shares}
use Rattle.child_table.proofs.child_table.Goals as goal

pub returns-in-Prototype : goal.returns-in-Prototype
returns-in-Prototype c = shares _ (ap step_in c.in-Prototype.is) c.requires.formed
