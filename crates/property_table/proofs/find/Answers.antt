-- `property_table::find` meets its contract. Assumes nothing.
use Rattle.theorems.specs.Facts.{used_place_inside}
use Rattle.property_table.specs.Readable.{readable}
use Rattle.property_table.proofs.find.Goals as goal

pub get_shape-s-requires-clause-place : goal.get_shape-s-requires-clause-place
get_shape-s-requires-clause-place c = used_place_inside _ _ c.requires.used

pub lookup-requires : goal.lookup-requires
lookup-requires c =
    let pre = c.requires in
    let its = readable pre.sound _ pre.used c.get_shape-s.ensures in
    rw c.of.ensures record { formed = pre.formed; there = its.there; slotted = its.slotted }
