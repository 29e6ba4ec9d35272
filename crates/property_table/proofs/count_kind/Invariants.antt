-- `property_table::count_kind` meets its contract. Assumes nothing.
use mathlib.Core.Path.{◌≡◌}
use lib.ListN.{length, take}
use Rattle.property_table.specs.Copies.{entries_in}
use Rattle.property_table.specs.KeyLists.{listed}
use Rattle.property_table.proofs.count_kind.Given as goal

abbrev pub invariant-loop-position : goal.invariant-loop-position
invariant-loop-position l = l.n ≡ length (listed l.kind (take l.position (entries_in l.image l.first.table)))
