-- `plan::plan_new` meets its contract. Assumes nothing.
use native.Mathlib.Omega.{arith}
use Rattle.std.specs.Prelude.{map}
use Rattle.store.specs.Layout.{parse}
use Rattle.rules.specs.Placing.{step_in}
use Rattle.theorems.specs.Facts.{used_place_inside}
use Rattle.plan.specs.Along.{few_given}
use Rattle.plan.proofs.plan_new.Goals as goal

pub first_gives-back-requires-clause-place : goal.first_gives-back-requires-clause-place
first_gives-back-requires-clause-place c =
    let pre = c.requires in
    used_place_inside _ _ pre.used

pub room_at-room-requires-clause-back_bound : goal.room_at-room-requires-clause-back_bound
room_at-room-requires-clause-back_bound c =
    let args = c.args in
    let pre = c.requires in
    let few = few_given (parse args.image.now) args.place (map step_in args.steps.now) in
    let all = pre.formed.limited.edges in
    omega (arith, c.first_gives-back.ensures)

pub returns : goal.returns
returns c = rw (← c.first_gives-back.ensures, ← c.room_at-room.ensures) c.spend_all.ensures
