-- `store::image::lowest_free_table` meets its contract. Assumes nothing.
use Rattle.store.specs.FreePlaces.{tables-listed, lowest-listed}
use Rattle.store.proofs.image.lowest_free_table.Goals as goal

pub lowest_unused-requires : goal.lowest_unused-requires
lowest_unused-requires c =
    let pre = c.requires in
    let tables = c.tables in
    let table-width = c.table_width in
    let table-count = c.table_count in
    (tables-listed pre tables.ensures table-width.ensures table-count.ensures).area

pub returns : goal.returns
returns c =
    let pre = c.requires in
    let tables = c.tables in
    let table-width = c.table_width in
    let table-count = c.table_count in
    let lowest-unused = c.lowest_unused in
    lowest-listed (tables-listed pre tables.ensures table-width.ensures table-count.ensures)
    lowest-unused.ensures
