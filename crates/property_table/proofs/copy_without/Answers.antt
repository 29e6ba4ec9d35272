-- `property_table::copy_without` meets its contract. Assumes nothing.
use Rattle.property_table.specs.OneKey.{others_ready, without-copied}
use Rattle.property_table.proofs.copy_without.Goals as goal

pub append_entries-requires-clause-copyable : goal.append_entries-requires-clause-copyable
append_entries-requires-clause-copyable c =
    let pre = c.requires in
    others_ready pre.formed pre.apart c.entry_count-count.ensures pre.position_in_bounds c.copy_entries.ensures

pub returns : goal.returns
returns c =
    let pre = c.requires in
    let count = c.entry_count-count.ensures in
    without-copied pre.formed pre.apart count pre.position_in_bounds c.copy_entries.ensures pre.from_value
    c.append_entries.ensures
