-- `drawing::edges::write_edges` meets its contract. Assumes nothing.
use Rattle.store.specs.Layout.{parse}
use Rattle.store.specs.Model.{no_edge}
use Rattle.store.specs.Scans.{edge-next}
use Rattle.drawing.specs.Parts.{one_added}
use Rattle.drawing.proofs.edges.write_edges.Goals as goal

pub loop-before-preserved : goal.loop-before-preserved
loop-before-preserved c =
    one_added c.loop-before.invariant no_edge (rw (← c.edge_count-before-end.ensures) c.loop-before-test.true)
    (rw (← edge-next (parse c.args.image.now) _) c.write_edge.ensures)
