-- `shapes::property_count` meets its contract. Assumes nothing.
use Rattle.shapes.specs.Called.{ready_formed}
use Rattle.shapes.proofs.property_count.Goals as goal

pub property_count-requires : goal.property_count-requires
property_count-requires c = ready_formed _ c.in_ok-tested.ensures.sound
