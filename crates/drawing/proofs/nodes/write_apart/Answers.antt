-- `drawing::nodes::write_apart` meets its contract. Assumes nothing.
use native.Mathlib.Omega.{arith}
use borrow.Author.Tests.{eq-eqb, ne_eqb}
use Rattle.lines.specs.Pages.{adds_nothing, adds_then, adds_within}
use Rattle.drawing.specs.Graph.{apart_text}
use Rattle.drawing.proofs.nodes.write_apart.Goals as goal

pub returns-then-s-ne-UNIQUE : goal.returns-then-s-ne-UNIQUE
unfolding apart_text
returns-then-s-ne-UNIQUE c = rw (ne_eqb _ 2 c.if-s-ne-UNIQUE.true) (adds_nothing _ 70)

pub returns : goal.returns
unfolding apart_text
returns c =
    let all = adds_then c.write_numbered.ensures c.write_word.ensures in
    rw (eq-eqb _ 2 c.if-s-ne-UNIQUE.false) (adds_within 70 (omega arith) all)
