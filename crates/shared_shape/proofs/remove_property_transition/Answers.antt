-- `shared_shape::remove_property_transition` meets its contract. Assumes nothing.
use borrow.Author.Rules.{rules}
use Rattle.shared_shape.specs.Replays.{left_from, base-shared, removal_legal, removal_is}
use Rattle.shared_shape.proofs.remove_property_transition.Goals as goal

pub transition-requires-clause-shared_at : goal.transition-requires-clause-shared_at
transition-requires-clause-shared_at c =
    let pre = c.requires in
    base-shared _ pre.sound _ _ pre.shared_at pre.n_value c.removal_steps-replay.ensures.base_value

pub transition-requires-clause-legal_steps : goal.transition-requires-clause-legal_steps
transition-requires-clause-legal_steps c =
    let replay = c.removal_steps-replay.ensures in
    let left = left_from (search rules) replay.steps_from in
    let pre = c.requires in
    removal_legal _ pre.sound _ _ pre.shared_at pre.n_value replay.base_value left

pub returns : goal.returns
returns c =
    let replay = c.removal_steps-replay.ensures in
    let left = left_from (search rules) replay.steps_from in
    let pre = c.requires in
    rw (← removal_is _ pre.sound _ _ pre.shared_at pre.n_value replay.base_value left)
    c.transition.ensures
