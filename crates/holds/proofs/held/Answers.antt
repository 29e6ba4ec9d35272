-- `holds::held` meets its contract. Assumes nothing.
use Rattle.holds.specs.Granted.{may_name, held_place}
use Rattle.std.proofs.Common.{ap, not}
use Rattle.holds.proofs.held.Goals as goal

pub get_shape-requires-clause-place : goal.get_shape-requires-clause-place
get_shape-requires-clause-place c = held_place _ _ (may_name _ _ c.is_held.ensures (ap not c.if-not-is_held.false))
