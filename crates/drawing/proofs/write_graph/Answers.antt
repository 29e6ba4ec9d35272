-- `drawing::write_graph` meets its contract. Assumes nothing.
use Rattle.std.proofs.Common.{rules}
use Rattle.lines.specs.Pages.{adds_then}
use Rattle.drawing.specs.Graph.{graph_text}
use Rattle.drawing.proofs.write_graph.Goals as goal

pub returns-clause-written : goal.returns-clause-written
unfolding graph_text
returns-clause-written c =
    let all =
    adds_then (adds_then (adds_then c.write_opening.ensures c.write_nodes.ensures) c.write_edges.ensures)
    c.write_word.ensures in
    search (rules, all)
