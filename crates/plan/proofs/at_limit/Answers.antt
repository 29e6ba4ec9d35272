-- `plan::at_limit` meets its contract. Assumes nothing.
use Prim.Native.Nat.{◌≤◌}
use native.Mathlib.Omega.{arith}
use Rattle.store.specs.Layout.{parse}
use Rattle.store.specs.Model.{shape_at}
use Rattle.theorems.specs.Facts.{used_place_inside}
use Rattle.plan.specs.Budget.{at_limit}
use Rattle.plan.proofs.at_limit.Goals as goal

pub get_shape-shape-requires-clause-place : goal.get_shape-shape-requires-clause-place
get_shape-shape-requires-clause-place c =
    let pre = c.requires in
    used_place_inside _ _ pre.used

pub overflow_sub-result : goal.overflow_sub-result
overflow_sub-result c =
    let pre = c.requires in
    let shape = c.get_shape-shape in
    let few : shape.result.transitions ≤ 1024
    = rw shape.ensures (pre.sound.shapes _ pre.used).words.transitions in
    omega arith

pub returns : goal.returns
returns c =
    let args = c.args in
    let pre = c.requires in
    let s = shape_at (parse args.image.now) args.from in
    let few = (pre.sound.shapes args.from pre.used).words.transitions in
    rw c.get_shape-shape.ensures (at_limit s.transitions args.count few)
