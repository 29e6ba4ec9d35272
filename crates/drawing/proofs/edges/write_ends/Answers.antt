-- `drawing::edges::write_ends` meets its contract. Assumes nothing.
use native.Mathlib.Omega.{arith}
use borrow.Author.Tests.{eq-eqb, ne_eqb}
use Rattle.lines.specs.Pages.{adds_then, adds_within}
use Rattle.drawing.specs.Graph.{ends}
use Rattle.drawing.proofs.edges.write_ends.Goals as goal

pub returns-then-e-eq0 : goal.returns-then-e-eq0
unfolding ends
returns-then-e-eq0 c =
    let all = adds_then (adds_then (adds_then c.write_numbered.ensures c.write_numbered-then-e-eq0.ensures)
    c.write_numbered-then-e-eq0-2.ensures) c.write_word.ensures in
    rw (eq-eqb _ 0 c.if-e-eq0.true) (adds_within 85 (omega arith) all)

pub returns : goal.returns
unfolding ends
returns c =
    let all = adds_then (adds_then c.write_numbered-2.ensures c.write_numbered-3.ensures) c.write_word-2.ensures in
    rw (ne_eqb _ 0 c.if-e-eq0.false) (adds_within 85 (omega arith) all)
