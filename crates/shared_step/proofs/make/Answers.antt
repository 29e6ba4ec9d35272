-- `shared_step::make` meets its contract. Assumes nothing.
use Rattle.store.specs.Layout.{parse}
use Rattle.rules.specs.Steps.{make}
use Rattle.rules.specs.Placing.{step_in}
use Rattle.shared_step.specs.Growing.{Ready, ready_of}
use Rattle.rules.specs.Placing.{placed}
use Rattle.shared_step.specs.Taking.{count_ready, grow_ready, made}
use Rattle.shared_step.proofs.make.Goals as goal
use Rattle.shared_step.proofs.make.Goals.{Start}

-- What is asked, as the lemmas take it.
ready : (c : Start) → let t = step_in c.args.t in
    Ready c.args.image.now c.args.n t (make (parse c.args.image.now) c.args.n t)
ready c =
    let pre = c.requires in
    let t = step_in c.args.t in
    ready_of _ c.args.n t (make (parse c.args.image.now) c.args.n t) pre.formed pre.sound pre.legal pre.passes

pub count_up-requires : goal.count_up-requires
count_up-requires c =
    let pre = ready (goal.at.count_up-requires c).Start in
    let both = count_ready pre c.edge_of-edge.ensures in
    record { formed = both.0; place = both.1.0; parent_bound = both.1.1 }

pub grow-requires : goal.grow-requires
grow-requires c =
    let pre = ready (goal.at.grow-requires c).Start in
    let both = grow_ready pre c.edge_of-edge.ensures c.count_up.ensures in
    record { formed = both.0; sound = both.1.0; legal = both.1.1.0; passes = both.1.1.1 }

pub returns : goal.returns
returns c =
    let pre = ready (goal.at.returns c).Start in
    made pre c.edge_of-edge.ensures c.count_up.ensures _ _ c.grow.ensures

pub shape_of-image : goal.shape_of-image
shape_of-image c =
    let pre = ready (goal.at.shape_of-image c).Start in
    (placed pre.1.1.1.1 (returns c)).0.long
