-- `inner_c::inner_insert` meets its contract. Assumes nothing.
use Rattle.shapes.specs.Called.{ready_formed, ready_sound, answered}
use Rattle.replies.specs.Told.{tells}
use Rattle.inner_c.proofs.inner_insert.Goals as goal

pub insert_property_transition-requires : goal.insert_property_transition-requires
insert_property_transition-requires c = record { formed = ready_formed _ c.requires; sound = ready_sound _ c.requires }

pub returns : goal.returns
returns c = tells _ _ _ _ (answered _ c.requires _ _ _ c.insert_property_transition.ensures) c.shape_numbers.ensures
