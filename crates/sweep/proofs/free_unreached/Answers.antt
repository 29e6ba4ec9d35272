-- `sweep::free_unreached` meets its contract. Assumes nothing.
use Rattle.sweep.specs.Freed.{passes_sweep}
use Rattle.sweep.specs.Marks.{none-marked}
use Rattle.sweep.proofs.free_unreached.Goals as goal

pub mark_reached-requires-clause-by_index : goal.mark_reached-requires-clause-by_index
mark_reached-requires-clause-by_index c = none-marked 65536

pub returns : goal.returns
returns c =
    let sweep-shapes = c.sweep_shapes in
    let mark-reached = c.mark_reached in
    let sweep-tables = c.sweep_tables in
    let sweep-edges = c.sweep_edges in
    passes_sweep _ mark-reached.ensures sweep-shapes.ensures sweep-tables.ensures
    sweep-edges.ensures
