-- `store::image::table_words` meets its contract. Assumes nothing.
use Rattle.store.specs.Image.{table_row}
use mathlib.Core.Path.{◌∙◌}
use Rattle.store.proofs.image.table_words.Goals as goal

pub row-requires : goal.row-requires
row-requires c =
    let pre = c.requires in
    let tables = c.tables in
    let table-width = c.table_width in
    (pre.place.low, (table_row pre.formed tables.ensures table-width.ensures pre.place).inside)

pub returns : goal.returns
returns c =
    let row = c.row in
    let pre = c.requires in
    let tables = c.tables in
    let table-width = c.table_width in
    row.ensures ∙ (table_row pre.formed tables.ensures table-width.ensures pre.place).read
