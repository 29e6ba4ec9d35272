-- `shapes::is_shared` meets its contract. Assumes nothing.
use Rattle.shapes.specs.Called.{ready_formed}
use Rattle.shapes.proofs.is_shared.Goals as goal

pub is_shared-requires : goal.is_shared-requires
is_shared-requires c = ready_formed _ c.in_ok-tested.ensures.sound
