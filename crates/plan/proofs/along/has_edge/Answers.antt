-- `plan::along::has_edge` meets its contract. Assumes nothing.
use mathlib.Core.Path.{sym, ap, ◌∙◌}
use Rattle.store.specs.Layout.{parse}
use Rattle.rules.specs.Placing.{step_in}
use Rattle.plan.specs.Along.{is_made, is_made_lem}
use Rattle.plan.proofs.along.has_edge.Goals as goal

pub returns-in-Live : goal.returns-in-Live
returns-in-Live c =
    let args = c.args in
    let Edge-of = c.edge_of in
    sym (ap is_made c.in-Live.is)
    ∙ is_made_lem (parse args.image.now) args.place (step_in args.step) Edge-of.ensures c.get.ensures

pub returns-in-Dead : goal.returns-in-Dead
returns-in-Dead c =
    let args = c.args in
    let Edge-of = c.edge_of in
    sym (ap is_made c.in-Dead.is)
    ∙ is_made_lem (parse args.image.now) args.place (step_in args.step) Edge-of.ensures c.get.ensures

pub returns-in-Absent : goal.returns-in-Absent
returns-in-Absent c =
    let args = c.args in
    let Edge-of = c.edge_of in
    sym (ap is_made c.in-Absent.is)
    ∙ is_made_lem (parse args.image.now) args.place (step_in args.step) Edge-of.ensures c.get.ensures
