-- `shared_step::take_steps` meets its contract. Assumes nothing.
use Rattle.shared_step.specs.Walking.{walk_start, walk_end, walk_ready, walk_on}
use Rattle.shared_step.proofs.take_steps.Goals as goal

pub loop-t-init : goal.loop-t-init
loop-t-init c =
    let pre = c.requires in
    walk_start pre.formed pre.sound pre.legal_steps

pub take_step-reached-requires : goal.take_step-reached-requires
take_step-reached-requires c =
    let both = walk_ready c.loop-t.invariant c.requires.passes _ c.loop-t-test.true in
    record { formed = both.0; sound = both.1.0; legal = both.1.1.0; passes = both.1.1.1 }

pub loop-t-preserved : goal.loop-t-preserved
loop-t-preserved c =
    walk_on c.loop-t.invariant c.requires.passes _ c.loop-t-test.true c.take_step-reached.ensures

pub shape_of-image : goal.shape_of-image
shape_of-image c = c.loop-t.invariant.so_far.long

pub returns : goal.returns
returns c = walk_end c.loop-t.invariant c.loop-t-test.false
