-- `shapes::transition_count` meets its contract. Assumes nothing.
use Rattle.shapes.specs.Called.{ready_formed}
use Rattle.shapes.proofs.transition_count.Goals as goal

pub transition_count-requires : goal.transition_count-requires
transition_count-requires c = ready_formed _ c.in_ok-tested.ensures.sound
