-- `drawing::nodes::write_counts` meets its contract. Assumes nothing.
use native.Mathlib.Omega.{arith}
use Rattle.lines.specs.Pages.{adds_then, adds_within}
use Rattle.drawing.specs.Graph.{counts_text}
use Rattle.drawing.proofs.nodes.write_counts.Goals as goal

pub returns : goal.returns
unfolding counts_text
returns c =
    let all = adds_then (adds_then (adds_then c.write_numbered.ensures c.write_numbered-2.ensures)
    c.write_numbered-3.ensures) c.write_word.ensures in
    adds_within 81 (omega arith) all
