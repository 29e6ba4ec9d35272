-- `inner_c::inner_lookup` meets its contract. Assumes nothing.
use Rattle.shapes.specs.Called.{ready_formed, ready_sound, answered}
use Rattle.replies.specs.Told.{tells}
use Rattle.inner_c.proofs.inner_lookup.Goals as goal

pub lookup-requires : goal.lookup-requires
lookup-requires c = record { formed = ready_formed _ c.requires; sound = ready_sound _ c.requires }

pub returns : goal.returns
returns c = tells _ _ _ _ (answered _ c.requires _ _ _ c.lookup.ensures) c.lookup_numbers.ensures
