-- `plan::along::live_child` meets its contract. Assumes nothing.
use mathlib.Core.Path.{sym, ap, ◌∙◌}
use Rattle.store.specs.Layout.{parse}
use Rattle.rules.specs.Placing.{step_in}
use Rattle.plan.specs.Along.{live_child, live_child_lem}
use Rattle.plan.proofs.along.live_child.Goals as goal

pub returns-in-Live : goal.returns-in-Live
returns-in-Live c =
    let args = c.args in
    let Edge-of = c.edge_of in
    let get = c.get in
    sym (ap live_child c.in-Live.is)
    ∙ live_child_lem (parse args.image.now) args.place (step_in args.step) Edge-of.ensures get.ensures

pub returns-in-Dead : goal.returns-in-Dead
returns-in-Dead c =
    let args = c.args in
    let Edge-of = c.edge_of in
    sym (ap live_child c.in-Dead.is)
    ∙ live_child_lem (parse args.image.now) args.place (step_in args.step) Edge-of.ensures c.get.ensures

pub returns-in-Absent : goal.returns-in-Absent
returns-in-Absent c =
    let args = c.args in
    let Edge-of = c.edge_of in
    sym (ap live_child c.in-Absent.is)
    ∙ live_child_lem (parse args.image.now) args.place (step_in args.step) Edge-of.ensures c.get.ensures
