-- `plan::along::gives` meets its contract. Assumes nothing.
use Rattle.store.specs.Layout.{parse}
use Rattle.rules.specs.Placing.{step_in}
use Rattle.plan.specs.Along.{gives_back, gives_none}
use Rattle.plan.proofs.along.gives.Goals as goal

pub returns-then-has_edge-wraps : goal.returns-then-has_edge-wraps
returns-then-has_edge-wraps c =
    let args = c.args in
    let Edge-of = c.edge_of-wanted in
    let get-shape = c.get_shape-shape in
    let counter = c.counter-wraps in
    gives_back (parse args.image.now) args.place (step_in args.step) Edge-of.ensures get-shape.ensures
    counter.ensures c.has_edge.ensures c.if-has_edge-wraps.true c.dead_edges.ensures

pub returns : goal.returns
returns c =
    let args = c.args in
    let Edge-of = c.edge_of-wanted in
    let get-shape = c.get_shape-shape in
    gives_none (parse args.image.now) args.place (step_in args.step) Edge-of.ensures get-shape.ensures
    c.counter-wraps.ensures c.has_edge.ensures c.if-has_edge-wraps.false
