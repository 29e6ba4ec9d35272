-- `store::image::free_tables` meets its contract. Assumes nothing.
use Rattle.store.specs.FreePlaces.{tables-listed, count-listed}
use Rattle.store.proofs.image.free_tables.Goals as goal

pub count_unused-requires : goal.count_unused-requires
count_unused-requires c =
    let pre = c.requires in
    let tables = c.tables in
    let table-width = c.table_width in
    let table-count = c.table_count in
    (tables-listed pre tables.ensures table-width.ensures table-count.ensures).area

pub returns : goal.returns
returns c =
    let pre = c.requires in
    let tables = c.tables in
    let table-width = c.table_width in
    let table-count = c.table_count in
    let count-unused = c.count_unused in
    count-listed (tables-listed pre tables.ensures table-width.ensures table-count.ensures)
    count-unused.ensures
