-- `shapes::release` meets its contract. Assumes nothing.
use Rattle.shapes.specs.Called.{ready_formed}
use Rattle.shapes.proofs.release.Goals as goal

pub release-requires : goal.release-requires
release-requires c = ready_formed _ c.in_ok-tested.ensures.sound
