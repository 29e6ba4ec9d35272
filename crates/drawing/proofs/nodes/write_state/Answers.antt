-- `drawing::nodes::write_state` meets its contract. Assumes nothing.
use borrow.Author.Tests.{eq-eqb, ne_eqb}
use Rattle.drawing.specs.Graph.{state_text}
use Rattle.drawing.proofs.nodes.write_state.Goals as goal

pub returns-then-s-eq-UNIQUE : goal.returns-then-s-eq-UNIQUE
unfolding state_text
returns-then-s-eq-UNIQUE c = rw (eq-eqb _ 2 c.if-s-eq-UNIQUE.true) c.write_word.ensures

pub returns-else-s-eq-UNIQUE : goal.returns-else-s-eq-UNIQUE
unfolding state_text
returns-else-s-eq-UNIQUE c = rw (ne_eqb _ 2 c.if-s-eq-UNIQUE.false) c.write_word-else-s-eq-UNIQUE.ensures
