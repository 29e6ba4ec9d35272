-- `sweep::passes::sweep_tables` meets its contract. Assumes nothing.
use Rattle.sweep.specs.Marks.{none-marked}
use Rattle.sweep.proofs.passes.sweep_tables.Goals as goal

pub mark_tables-requires-clause-by_index : goal.mark_tables-requires-clause-by_index
mark_tables-requires-clause-by_index c = none-marked 65536
