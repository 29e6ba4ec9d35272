-- `drawing::rows::write_rows` meets its contract. Assumes nothing.
use Rattle.property_table.specs.Copies.{entries_in}
use Rattle.drawing.specs.Rows.{RowsTo}
use Rattle.drawing.proofs.rows.write_rows.Given as goal

abbrev pub invariant-loop-position : goal.invariant-loop-position
invariant-loop-position l = RowsTo l.first.count (entries_in l.image l.first.table) l.initial.page l.page l.position
