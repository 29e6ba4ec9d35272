-- `drawing::rows::write_key_row` meets its contract. Assumes nothing.
use native.Mathlib.Omega.{arith}
use Rattle.lines.specs.Pages.{adds_then, adds_within}
use Rattle.drawing.specs.Graph.{key_row}
use Rattle.drawing.proofs.rows.write_key_row.Goals as goal

pub returns : goal.returns
unfolding key_row
returns c =
    let all = adds_then (adds_then (adds_then (adds_then (adds_then c.write_numbered.ensures
    c.write_word.ensures) c.write_key.ensures) c.write_word-2.ensures) c.write_attributes.ensures)
    c.write_word-3.ensures in
    adds_within 107 (omega (arith, c.requires)) all
