-- `shared_shape::change_width` meets its contract. Assumes nothing.
use borrow.Author.Rules.{rules}
use Rattle.shared_shape.specs.Replays.{left_from, base-shared, change_legal, change_is}
use Rattle.shared_shape.proofs.change_width.Goals as goal

pub transition-requires-clause-shared_at : goal.transition-requires-clause-shared_at
transition-requires-clause-shared_at c =
    let pre = c.requires in
    base-shared _ pre.sound _ _ pre.shared_at pre.n_value c.change_steps-replay.ensures.base_value

pub transition-requires-clause-legal_steps : goal.transition-requires-clause-legal_steps
transition-requires-clause-legal_steps c =
    let replay = c.change_steps-replay.ensures in
    let left = left_from (search rules) replay.steps_from in
    let pre = c.requires in
    change_legal _ pre.sound _ _ pre.shared_at pre.n_value replay.base_value pre.attributes_le_most_stored
    left

pub returns : goal.returns
returns c =
    let replay = c.change_steps-replay.ensures in
    let left = left_from (search rules) replay.steps_from in
    let pre = c.requires in
    rw (← change_is _ pre.sound _ _ pre.shared_at pre.n_value replay.base_value pre.attributes_le_most_stored
    left pre.attributes_value)
    c.transition.ensures
