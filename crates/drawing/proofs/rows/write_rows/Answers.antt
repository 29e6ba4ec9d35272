-- `drawing::rows::write_rows` meets its contract. Assumes nothing.
use Rattle.property_table.specs.Copies.{entries-few}
use Rattle.drawing.specs.Rows.{row_added, rows_added, row_fits}
use Rattle.drawing.proofs.rows.write_rows.Goals as goal

pub write_row-requires-clause-slot_bound : goal.write_row-requires-clause-slot_bound
write_row-requires-clause-slot_bound c =
    let fits = row_fits _ _ c.requires.there.enough c.requires.slotted (entries-few c.requires.formed _)
    c.loop-position-test.true c.get_entry.ensures in
    fits.1

pub loop-position-preserved : goal.loop-position-preserved
loop-position-preserved c =
    row_added _ _ c.requires.there.enough c.loop-position.invariant c.loop-position-test.true
    c.get_entry.ensures c.write_row.ensures

pub returns : goal.returns
returns c = rows_added _ _ c.requires.there.enough c.loop-position.invariant c.loop-position-test.false
