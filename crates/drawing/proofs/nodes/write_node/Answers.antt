-- `drawing::nodes::write_node` meets its contract. Assumes nothing.
use Rattle.store.specs.Layout.{parse}
use native.Mathlib.Omega.{arith}
use borrow.Author.Tests.{eq-eqb, ne_eqb}
use Rattle.theorems.specs.Facts.{Used, keys_fit}
use Rattle.property_table.specs.Readable.{readable}
use Rattle.lines.specs.Pages.{adds_nothing}
use Rattle.drawing.specs.Graph.{node_text}
use Rattle.drawing.proofs.nodes.write_node.Goals as goal

pub returns-then-s-eq-FREE : goal.returns-then-s-eq-FREE
unfolding node_text
returns-then-s-eq-FREE c = rw (← c.get_shape-s.ensures, eq-eqb _ 0 c.if-s-eq-FREE.true) (adds_nothing _ 5200)

pub write_shape-requires-clause-readable : goal.write_shape-requires-clause-readable
write_shape-requires-clause-readable c =
    let read = c.get_shape-s.ensures in
    let used : Used (parse c.args.image.now) c.args.n = rw (← read) (ne_eqb _ 0
    c.if-s-eq-FREE.false) in
    readable c.requires.sound _ used read

pub write_shape-requires-clause-properties_bound : goal.write_shape-requires-clause-properties_bound
write_shape-requires-clause-properties_bound c =
    let read = c.get_shape-s.ensures in
    let used : Used (parse c.args.image.now) c.args.n = rw (← read) (ne_eqb _ 0
    c.if-s-eq-FREE.false) in
    let keys = rw (← read) at (keys_fit _ c.requires.sound c.args.n used) in
    omega (arith, c.requires.image_bound)

pub returns : goal.returns
unfolding node_text
returns c = rw (← c.get_shape-s.ensures, ne_eqb _ 0 c.if-s-eq-FREE.false) c.write_shape.ensures
