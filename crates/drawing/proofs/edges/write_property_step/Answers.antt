-- `drawing::edges::write_property_step` meets its contract. Assumes nothing.
use native.Mathlib.Omega.{arith}
use Rattle.lines.specs.Pages.{adds_then, adds_within}
use Rattle.drawing.specs.Graph.{property_step_text}
use Rattle.drawing.proofs.edges.write_property_step.Goals as goal

pub returns : goal.returns
unfolding property_step_text
returns c =
    let all = adds_then (adds_then (adds_then c.write_step_name.ensures c.write_key.ensures)
    c.write_word.ensures) c.write_attributes.ensures in
    adds_within 33 (omega arith) all
