-- `drawing::edges::write_edges` meets its contract. Assumes nothing.
use Rattle.store.specs.Layout.{parse}
use Rattle.drawing.specs.Parts.{Adding}
use Rattle.drawing.specs.Graph.{edge_text}
use Rattle.drawing.proofs.edges.write_edges.Given as goal

abbrev pub invariant-loop-before : goal.invariant-loop-before
invariant-loop-before l =
    Adding (edge_text (parse l.image)) 1 121 (parse l.image).edges l.initial.page l.page l.before
