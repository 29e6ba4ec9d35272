-- `drawing::nodes::write_nodes` meets its contract. Assumes nothing.
use Rattle.store.specs.Layout.{parse}
use Rattle.drawing.specs.Parts.{Adding}
use Rattle.drawing.specs.Graph.{node_text}
use Rattle.drawing.proofs.nodes.write_nodes.Given as goal

abbrev pub invariant-loop-before : goal.invariant-loop-before
invariant-loop-before l =
    Adding (node_text (parse l.image)) 1 5200 (parse l.image).shapes l.initial.page l.page l.before
