-- `shapes::insert` meets its contract. Assumes nothing.
use Rattle.shapes.specs.Called.{ready_formed, ready_sound}
use Rattle.shapes.proofs.insert.Goals as goal

pub insert_property_transition-requires : goal.insert_property_transition-requires
insert_property_transition-requires c =
    let sound = c.in_ok-tested.ensures.sound in
    record { formed = ready_formed _ sound; sound = ready_sound _ sound }
