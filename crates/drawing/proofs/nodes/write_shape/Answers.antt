-- `drawing::nodes::write_shape` meets its contract. Assumes nothing.
use native.Mathlib.Omega.{arith}
use Rattle.lines.specs.Pages.{adds_then, adds_within}
use Rattle.drawing.specs.Graph.{shape_text}
use Rattle.drawing.proofs.nodes.write_shape.Goals as goal

pub returns : goal.returns
unfolding shape_text
returns c =
    let rows = rw c.of.ensures at c.write_rows.ensures in
    let head = adds_then c.write_title.ensures c.write_counts.ensures in
    let all = adds_then (adds_then (adds_then head rows) c.write_word.ensures) c.write_apart.ensures in
    adds_within 5200 (omega (arith, c.requires.properties_bound)) all
