-- `shared_step::grow` meets its contract. Assumes nothing.
use Rattle.store.specs.Layout.{parse}
use Rattle.rules.specs.Steps.{grow}
use Rattle.rules.specs.Placing.{step_in}
use Rattle.shared_step.specs.Growing.{Ready, ready_of}
use Rattle.rules.specs.Placing.{placed}
use Rattle.shared_step.specs.Growing.{shape-place, table_ready, counts_fit, shape_ready, edge_ready}
use Rattle.shared_step.specs.Growing.{grown}
use Rattle.shared_step.proofs.grow.Goals as goal
use Rattle.shared_step.proofs.grow.Goals.{Start}

-- What is asked, as the lemmas take it.
ready : (c : Start) → let t = step_in c.args.t in
    Ready c.args.image.now c.args.n t (grow (parse c.args.image.now) c.args.n t)
ready c =
    let pre = c.requires in
    let t = step_in c.args.t in
    ready_of _ c.args.n t (grow (parse c.args.image.now) c.args.n t) pre.formed pre.sound pre.legal pre.passes

pub get_shape-s-requires-clause-place : goal.get_shape-s-requires-clause-place
get_shape-s-requires-clause-place c =
    let pre = ready (goal.at.get_shape-s-requires-clause-place c).Start in
    shape-place pre

pub child_table-table-requires : goal.child_table-table-requires
child_table-table-requires c =
    let pre = ready (goal.at.child_table-table-requires c).Start in
    let both = table_ready pre c.get_shape-s.ensures c.lowest_free_shape-child.ensures in
    record { formed = both.0; parent = both.1.0; passes = both.1.1 }

pub child_shape-requires : goal.child_shape-requires
child_shape-requires c =
    let pre = ready (goal.at.child_shape-requires c).Start in
    let both = counts_fit pre c.get_shape-s.ensures c.lowest_free_shape-child.ensures in
    record { transitions_bound = both.0; properties_bound = both.1 }

pub put_shape-requires : goal.put_shape-requires
put_shape-requires c =
    let pre = ready (goal.at.put_shape-requires c).Start in
    let both = shape_ready pre c.get_shape-s.ensures c.lowest_free_shape-child.ensures
    _ _ c.child_table-table.ensures in
    record { formed = both.0; place = both.1 }

pub add_edge-requires : goal.add_edge-requires
add_edge-requires c =
    let pre = ready (goal.at.add_edge-requires c).Start in
    let both = edge_ready pre c.get_shape-s.ensures c.lowest_free_shape-child.ensures _
    _ c.child_table-table.ensures c.child_shape.ensures
    c.put_shape.ensures in
    record { formed = both.0; bound = both.1 }

pub returns : goal.returns
returns c =
    let pre = ready (goal.at.returns c).Start in
    grown pre c.get_shape-s.ensures c.lowest_free_shape-child.ensures _ _
    c.child_table-table.ensures c.child_shape.ensures
    c.put_shape.ensures c.edge_of.ensures c.add_edge.ensures

pub shape_of-image : goal.shape_of-image
shape_of-image c =
    let pre = ready (goal.at.shape_of-image c).Start in
    (placed pre.1.1.1.1 (returns c)).0.long
