-- `property_table::append_entries` meets its contract. Assumes nothing.
use Rattle.property_table.specs.Copies.{copy_turn, copy_done}
use Rattle.property_table.proofs.append_entries.Goals as goal

pub loop-position-preserved : goal.loop-position-preserved
loop-position-preserved c =
    copy_turn c.loop-position.invariant c.loop-position-test.true (rw (← c.get_entry-e.ensures) c.append.ensures)

pub returns : goal.returns
returns c = copy_done c.loop-position.invariant c.loop-position-test.false
