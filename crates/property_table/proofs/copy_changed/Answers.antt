-- `property_table::copy_changed` meets its contract. Assumes nothing.
use Rattle.property_table.specs.OneKey.{key_ready, changed_ready, changed-copied}
use Rattle.property_table.proofs.copy_changed.Goals as goal

pub append-requires : goal.append-requires
append-requires c =
    let pre = c.requires in
    let first = c.copy_entries.ensures in
    let rest = key_ready pre.formed pre.apart c.entry_count-all.ensures pre.position_in_bounds first in
    record { formed = first.formed; place = rest.0; table_value = rest.1.0; table_len_bound = rest.1.1.0; slotted = rest.1.1.1 }

pub append_entries-requires : goal.append_entries-requires
append_entries-requires c =
    let pre = c.requires in
    let first = c.copy_entries.ensures in
    let count = c.entry_count-all.ensures in
    let both = changed_ready pre.formed pre.apart count pre.position_in_bounds first _ c.get_entry-e.ensures
    c.append.ensures pre.attributes_le_most_stored in
    record { formed = both.0; copyable = both.1 }

pub returns : goal.returns
returns c =
    let pre = c.requires in
    let count = c.entry_count-all.ensures in
    changed-copied pre.formed pre.apart count pre.position_in_bounds c.copy_entries.ensures _ c.get_entry-e.ensures
    c.append.ensures pre.from_value c.append_entries.ensures
