-- `drawing::nodes::write_nodes` meets its contract. Assumes nothing.
use Rattle.store.specs.Layout.{parse}
use Rattle.store.specs.Model.{no_shape}
use Rattle.store.specs.Scans.{shape-next}
use Rattle.drawing.specs.Parts.{one_added}
use Rattle.drawing.proofs.nodes.write_nodes.Goals as goal

pub loop-before-preserved : goal.loop-before-preserved
loop-before-preserved c =
    one_added c.loop-before.invariant no_shape (rw (← c.shape_count-before-end.ensures) c.loop-before-test.true)
    (rw (← shape-next (parse c.args.image.now) _) c.write_node.ensures)
