-- `shapes::sweep` meets its contract. Assumes nothing.
use Rattle.shapes.specs.Called.{ready_formed, ready_sound}
use Rattle.shapes.proofs.sweep.Goals as goal

pub sweep-requires : goal.sweep-requires
sweep-requires c =
    let sound = c.in_ok-tested.ensures.sound in
    record { formed = ready_formed _ sound; sound = ready_sound _ sound }
