-- `drawing::write_opening` meets its contract. Assumes nothing.
use native.Mathlib.Omega.{arith}
use Rattle.lines.specs.Pages.{adds_then, adds_within}
use Rattle.drawing.specs.Graph.{opening}
use Rattle.drawing.proofs.write_opening.Goals as goal

pub returns : goal.returns
unfolding opening
returns c =
    let all = adds_then (adds_then (adds_then (adds_then c.write_word.ensures c.write_word-2.ensures)
    c.write_word-3.ensures) c.write_word-4.ensures) c.write_word-5.ensures in
    adds_within 400 (omega arith) all
