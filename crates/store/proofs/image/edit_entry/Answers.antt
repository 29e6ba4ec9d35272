-- `store::image::edit_entry` meets its contract. Assumes nothing.
use Rattle.store.specs.Tables.{edit_becomes}
use Rattle.store.specs.Image.{table_row}
use mathlib.Core.Path.{refl}
use native.Mathlib.Omega.{arith}
use Rattle.store.proofs.image.edit_entry.Goals as goal

pub row_at-at-requires : goal.row_at-at-requires
row_at-at-requires c =
    let pre = c.requires in
    let tables = c.tables in
    let table-width = c.table_width-width in
    (pre.place.low, (table_row pre.formed tables.ensures table-width.ensures pre.place).inside)

pub slice_bounds-edit_table-end : goal.slice_bounds-edit_table-end
slice_bounds-edit_table-end c =
    let pre = c.requires in
    let tables = c.tables in
    let table-width = c.table_width-width in
    omega (arith, (table_row pre.formed tables.ensures table-width.ensures pre.place).inside)

pub returns : goal.returns
returns c =
    let pre = c.requires in
    let tables = c.tables in
    let table-width = c.table_width-width in
    let row_at = c.row_at-at in
    let args = c.args in
    let edit-table = c.edit_table in
    edit_becomes pre.formed pre.place tables.ensures table-width.ensures row_at.ensures refl
    args.position.0 args.count args.e edit-table.ensures
