-- `holds::previous` meets its contract. Assumes nothing.
use Rattle.holds.specs.Granted.{named, previous_place}
use Rattle.holds.proofs.previous.Goals as goal

pub grant-requires-clause-place : goal.grant-requires-clause-place
grant-requires-clause-place c =
    previous_place c.requires.sound (named c.held.ensures c.in_ok-s.was) c.if-s-eq0.false
