-- `store::image::free_table` meets its contract. Assumes nothing.
use Rattle.store.specs.Tables.{cleared_becomes}
use Rattle.store.specs.Image.{table_row}
use mathlib.Core.Path.{refl}
use native.Mathlib.Omega.{arith}
use Rattle.store.proofs.image.free_table.Goals as goal

pub row_at-at-requires : goal.row_at-at-requires
row_at-at-requires c =
    let pre = c.requires in
    let tables = c.tables in
    let table-width = c.table_width-width in
    (pre.place.low, (table_row pre.formed tables.ensures table-width.ensures pre.place).inside)

pub slice_bounds-clear-end : goal.slice_bounds-clear-end
slice_bounds-clear-end c =
    let pre = c.requires in
    let tables = c.tables in
    let table-width = c.table_width-width in
    omega (arith, (table_row pre.formed tables.ensures table-width.ensures pre.place).inside)

pub returns : goal.returns
returns c =
    let pre = c.requires in
    let tables = c.tables in
    let table-width = c.table_width-width in
    let row_at = c.row_at-at in
    cleared_becomes pre.formed pre.place tables.ensures table-width.ensures row_at.ensures refl
    c.clear.ensures
