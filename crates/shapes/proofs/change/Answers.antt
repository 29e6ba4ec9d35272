-- `shapes::change` meets its contract. Assumes nothing.
use Rattle.shapes.specs.Called.{ready_formed, ready_sound}
use Rattle.shapes.proofs.change.Goals as goal

pub change_attributes_transition-requires : goal.change_attributes_transition-requires
change_attributes_transition-requires c =
    let sound = c.in_ok-tested.ensures.sound in
    record { formed = ready_formed _ sound; sound = ready_sound _ sound }
