-- `drawing::edges::write_step` meets its contract. Assumes nothing.
use native.Mathlib.Omega.{arith}
use borrow.Author.Tests.{eq-eqb, ne_eqb}
use Rattle.lines.specs.Pages.{adds_within}
use Rattle.drawing.specs.Graph.{step_text}
use Rattle.drawing.proofs.edges.write_step.Goals as goal

pub returns-then-e-eq-PROTOTYPE : goal.returns-then-e-eq-PROTOTYPE
unfolding step_text
returns-then-e-eq-PROTOTYPE c =
    rw (eq-eqb _ 1 c.if-e-eq-PROTOTYPE.true) (adds_within 33 (omega arith) c.write_numbered.ensures)

pub returns-else-e-eq-PROTOTYPE : goal.returns-else-e-eq-PROTOTYPE
unfolding step_text
returns-else-e-eq-PROTOTYPE c = rw (ne_eqb _ 1 c.if-e-eq-PROTOTYPE.false) c.write_property_step.ensures
