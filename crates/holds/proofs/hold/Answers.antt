-- `holds::hold` meets its contract. Assumes nothing.
use Rattle.holds.specs.Granted.{named}
use Rattle.holds.proofs.hold.Goals as goal

pub grant-requires-clause-place : goal.grant-requires-clause-place
grant-requires-clause-place c = (named c.held.ensures c.in_ok-held.was).place
