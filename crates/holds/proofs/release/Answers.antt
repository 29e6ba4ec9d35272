-- `holds::release` meets its contract. Assumes nothing.
use Rattle.holds.specs.Granted.{named}
use Rattle.holds.proofs.release.Goals as goal

pub put_shape-requires-clause-place : goal.put_shape-requires-clause-place
put_shape-requires-clause-place c = (named c.held.ensures c.in_ok-s.was).place
