-- `property_table::append_entries` meets its contract. Assumes nothing.
use Rattle.property_table.specs.Copies.{Copying}
use Rattle.property_table.proofs.append_entries.Given as goal

abbrev pub invariant-loop-position : goal.invariant-loop-position
invariant-loop-position l = Copying l.initial.image l.from l.to l.fn.start.0 l.position-end l.position l.image
