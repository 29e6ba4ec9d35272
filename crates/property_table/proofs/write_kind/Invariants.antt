-- `property_table::write_kind` meets its contract. Assumes nothing.
use Rattle.property_table.specs.Copies.{entries_in}
use Rattle.property_table.specs.KeyLists.{Listing}
use Rattle.property_table.proofs.write_kind.Given as goal

abbrev pub invariant-loop-position : goal.invariant-loop-position
invariant-loop-position l = Listing l.kind l.first.count (entries_in l.image l.first.table) l.initial.out l.at l.position l.end l.out
