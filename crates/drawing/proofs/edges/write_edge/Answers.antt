-- `drawing::edges::write_edge` meets its contract. Assumes nothing.
use native.Mathlib.Omega.{arith}
use Rattle.store.specs.Model.{shape_at, edge_at}
use Rattle.store.specs.Layout.{parse}
use borrow.Author.Tests.{eq-eqb, ne_eqb}
use Rattle.rules.specs.Shapes.{entries}
use Rattle.rules.specs.InUse.{shared_used, label_attributes}
use Rattle.lines.specs.Pages.{adds_nothing, adds_then, adds_within}
use Rattle.drawing.specs.Graph.{edge_text}
use Rattle.drawing.proofs.edges.write_edge.Goals as goal

pub returns-then-e-eq0 : goal.returns-then-e-eq0
unfolding edge_text
returns-then-e-eq0 c = rw (← c.get_edge-e.ensures, eq-eqb _ 0 c.if-e-eq0.true) (adds_nothing _ 121)

pub write_step-requires-clause-used : goal.write_step-requires-clause-used
write_step-requires-clause-used c =
    let m = parse c.args.image.now in
    let e = c.get_edge-e.ensures in
    let parent = shape_at m (edge_at m c.args.n).parent in
    let its = c.requires.sound.edges c.args.n (rw (← e) (ne_eqb _ 0 c.if-e-eq0.false)) in
    rw e (shared_used parent its.parent_shared)

pub write_step-requires-clause-attributes_le_most_stored : goal.write_step-requires-clause-attributes_le_most_stored
write_step-requires-clause-attributes_le_most_stored c =
    let m = parse c.args.image.now in
    let e = c.get_edge-e.ensures in
    let edge = edge_at m c.args.n in
    let its = c.requires.sound.edges c.args.n (rw (← e) (ne_eqb _ 0 c.if-e-eq0.false)) in
    rw e (label_attributes (entries m (shape_at m edge.parent)) edge its.label)

pub returns : goal.returns
unfolding edge_text
returns c =
    let all = adds_then (adds_then c.write_ends.ensures c.write_step.ensures) c.write_word.ensures in
    rw (← c.get_edge-e.ensures, ne_eqb _ 0 c.if-e-eq0.false) (adds_within 121 (omega arith) all)
