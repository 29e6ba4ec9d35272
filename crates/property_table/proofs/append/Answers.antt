-- `property_table::append` meets its contract. Assumes nothing.
use Rattle.property_table.specs.Copies.{entries-few, index_fits, appended_slot}
use Rattle.property_table.proofs.append.Goals as goal

pub from_previous-slot-requires : goal.from_previous-slot-requires
from_previous-slot-requires c =
    let pre = c.requires in
    index_fits pre.slotted c.last_slot.ensures (entries-few pre.formed _)

pub returns : goal.returns
returns c =
    appended_slot c.requires.slotted c.last_slot.ensures _ _ _ _ c.from_previous-slot.ensures
    c.append_entry.ensures
