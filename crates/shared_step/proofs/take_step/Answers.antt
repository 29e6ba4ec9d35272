-- `shared_step::take_step` meets its contract. Assumes nothing.
use Rattle.store.specs.Layout.{parse}
use Rattle.rules.specs.Steps.{step}
use Rattle.rules.specs.Placing.{step_in}
use Rattle.shared_step.specs.Growing.{Ready, ready_of}
use Rattle.rules.specs.Placing.{placed}
use Rattle.shared_step.specs.Growing.{shape-place}
use Rattle.shared_step.specs.Taking.{live_taken, absent_ready, absent_taken, dead_ready, dead-taken}
use Rattle.shared_step.proofs.take_step.Goals as goal
use Rattle.shared_step.proofs.take_step.Goals.{Start}

-- What is asked, as the lemmas take it.
ready : (c : Start) → let t = step_in c.args.t in
    Ready c.args.image.now c.args.n t (step (parse c.args.image.now) c.args.n t)
ready c =
    let pre = c.requires in
    let t = step_in c.args.t in
    ready_of _ c.args.n t (step (parse c.args.image.now) c.args.n t) pre.formed pre.sound pre.legal pre.passes

pub prune_transitions-requires-clause-place : goal.prune_transitions-requires-clause-place
prune_transitions-requires-clause-place c =
    let pre = ready (goal.at.prune_transitions-requires-clause-place c).Start in
    shape-place pre

pub make-requires : goal.make-requires
make-requires c =
    let pre = ready (goal.at.make-requires c).Start in
    let both = dead_ready pre c.edge_of-wanted.ensures c.get-found.ensures
    c.in-Dead.is c.prune_transitions.ensures in
    record { formed = both.0; sound = both.1.0; legal = both.1.1.0; passes = both.1.1.1 }

pub make-requires-in-Absent : goal.make-requires-in-Absent
make-requires-in-Absent c =
    let pre = ready (goal.at.make-requires-in-Absent c).Start in
    let both = absent_ready pre c.edge_of-wanted.ensures c.get-found.ensures
    c.in-Absent.is in
    record { formed = both.0; sound = both.1.0; legal = both.1.1.0; passes = both.1.1.1 }

pub returns-in-Live : goal.returns-in-Live
returns-in-Live c =
    let pre = ready (goal.at.returns-in-Live c).Start in
    live_taken pre c.edge_of-wanted.ensures c.get-found.ensures c.in-Live.is

pub returns-in-Dead : goal.returns-in-Dead
returns-in-Dead c =
    let pre = ready (goal.at.returns-in-Dead c).Start in
    dead-taken pre c.edge_of-wanted.ensures c.get-found.ensures
    c.in-Dead.is c.prune_transitions.ensures _ _
    c.make.ensures

pub shape_of-image-in-Dead : goal.shape_of-image-in-Dead
shape_of-image-in-Dead c =
    let pre = ready (goal.at.shape_of-image-in-Dead c).Start in
    (placed pre.1.1.1.1 (returns-in-Dead c)).0.long

pub returns-in-Absent : goal.returns-in-Absent
returns-in-Absent c =
    let pre = ready (goal.at.returns-in-Absent c).Start in
    absent_taken pre c.edge_of-wanted.ensures c.get-found.ensures
    c.in-Absent.is _ _ c.make-in-Absent.ensures

pub shape_of-image-in-Absent : goal.shape_of-image-in-Absent
shape_of-image-in-Absent c =
    let pre = ready (goal.at.shape_of-image-in-Absent c).Start in
    (placed pre.1.1.1.1 (returns-in-Absent c)).0.long
