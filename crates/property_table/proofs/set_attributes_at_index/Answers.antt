-- `property_table::set_attributes_at_index` meets its contract. Assumes nothing.
use Rattle.property_table.specs.Copies.{entries_in}
use Rattle.property_table.specs.OneKey.{set-configured}
use Rattle.property_table.proofs.set_attributes_at_index.Goals as goal

pub returns : goal.returns
returns c =
    let args = c.args in
    let pre = c.requires in
    set-configured (entries_in args.image.now args.table) args.position.0 pre.table_value
    pre.position_in_bounds _ _ _ c.get_entry-e.ensures c.set_entry.ensures
