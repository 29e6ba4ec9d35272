-- `shapes::prototype` meets its contract. Assumes nothing.
use Rattle.shapes.specs.Called.{ready_formed}
use Rattle.shapes.proofs.prototype.Goals as goal

pub prototype-requires : goal.prototype-requires
prototype-requires c = ready_formed _ c.in_ok-tested.ensures.sound
