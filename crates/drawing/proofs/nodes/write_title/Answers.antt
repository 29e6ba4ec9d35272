-- `drawing::nodes::write_title` meets its contract. Assumes nothing.
use native.Mathlib.Omega.{arith}
use Rattle.lines.specs.Pages.{adds_then, adds_within}
use Rattle.drawing.specs.Graph.{title_text}
use Rattle.drawing.proofs.nodes.write_title.Goals as goal

pub returns : goal.returns
unfolding title_text
returns c =
    let all = adds_then (adds_then (adds_then c.write_numbered.ensures c.write_word.ensures)
    c.write_numbered-2.ensures) c.write_state.ensures in
    adds_within 150 (omega arith) all
