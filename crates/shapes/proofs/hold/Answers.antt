-- `shapes::hold` meets its contract. Assumes nothing.
use Rattle.shapes.specs.Called.{ready_formed}
use Rattle.shapes.proofs.hold.Goals as goal

pub hold-requires : goal.hold-requires
hold-requires c = ready_formed _ c.in_ok-tested.ensures.sound
