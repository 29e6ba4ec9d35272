-- `sweep::walks::mark_reached` meets its contract. Assumes nothing.
use native.Mathlib.Omega.{arith}
use Rattle.sweep.specs.Walks.{walks-none, walks_next, walks-all}
use Rattle.sweep.proofs.walks.mark_reached.Goals as goal

pub loop-done-init : goal.loop-done-init
loop-done-init c =
    let pre = c.requires in
    (omega arith, walks-none _ pre.image_in_bounds pre.by_index)

pub loop-done-preserved : goal.loop-done-preserved
loop-done-preserved c =
    let shape-count = c.shape_count-count in
    let loop = c.loop-done in
    let walk-if-held = c.walk_if_held in
    (omega (arith, shape-count.ensures), walks_next _ loop.invariant.1 walk-if-held.ensures)

pub returns : goal.returns
returns c =
    let pre = c.requires in
    let loop = c.loop-done in
    let shape-count = c.shape_count-count in
    walks-all _ pre.sound loop.invariant.1 (omega (arith, shape-count.ensures))
