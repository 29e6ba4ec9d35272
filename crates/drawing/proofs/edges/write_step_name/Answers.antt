-- `drawing::edges::write_step_name` meets its contract. Assumes nothing.
use mathlib.Core.Path.{sym, ◌∙◌}
use native.Mathlib.Omega.{arith}
use Rattle.store.specs.Model.{shape_at}
use Rattle.store.specs.Layout.{parse}
use Rattle.rules.specs.Shapes.{entries}
use Rattle.property_table.specs.Lookup.{looked_held, looked_absent}
use Rattle.lines.specs.Pages.{adds_within}
use Rattle.drawing.specs.Graph.{step_name}
use Rattle.drawing.proofs.edges.write_step_name.Goals as goal

pub returns-in-Some : goal.returns-in-Some
unfolding step_name
returns-in-Some c =
    let told = (looked_held {k = c.args.e.label} {es = entries (parse c.args.image.now) (shape_at
    (parse c.args.image.now) c.args.e.parent)}
    (sym c.find.ensures ∙ c.in-Some.is)).held in
    rw told c.write_word.ensures

pub returns-in-None : goal.returns-in-None
unfolding step_name
returns-in-None c =
    let told = (looked_absent {k = c.args.e.label} {es = entries (parse c.args.image.now)
    (shape_at (parse c.args.image.now) c.args.e.parent)}
    (sym c.find.ensures ∙ c.in-None.is)).held in
    rw told (adds_within 10 (omega arith) c.write_word-in-None.ensures)
