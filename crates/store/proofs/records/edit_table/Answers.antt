-- `store::records::edit_table` meets its contract. Assumes nothing.
use Rattle.store.specs.Tables.{entry-stored}
use mathlib.Core.Path.{refl}
use Rattle.store.proofs.records.edit_table.Goals as goal

pub returns : goal.returns
returns c =
    let row_at = c.row_at-at in
    let write-entry = c.write_entry in
    entry-stored _ _ _ _ row_at.ensures refl write-entry.ensures
