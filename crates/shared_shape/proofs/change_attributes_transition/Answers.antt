-- `shared_shape::change_attributes_transition` meets its contract. Assumes nothing.
use mathlib.Core.Path.{sym, ◌∙◌}
use Rattle.shared_shape.specs.Replays.{configure_legal, configure_is}
use Rattle.shared_shape.proofs.change_attributes_transition.Goals as goal

pub change_width-requires-clause-attributes_value : goal.change_width-requires-clause-attributes_value
change_width-requires-clause-attributes_value c =
    let if1 = c.if-not-width_stays in
    let width-stays = c.width_stays in
    let other = sym width-stays.ensures ∙ if1.true in
    other

pub one_step-requires-clause-legal : goal.one_step-requires-clause-legal
one_step-requires-clause-legal c =
    let if1 = c.if-not-width_stays in
    let width-stays = c.width_stays in
    let pre = c.requires in
    let rest = pre in
    let same = sym width-stays.ensures ∙ if1.false in
    let legal = configure_legal _ pre.sound _ _ pre.shared_at rest.n_value _ same rest.n_bound in
    legal rest.key_value rest.attributes_le_most_stored

pub returns : goal.returns
returns c =
    let one-step = c.one_step in
    let if1 = c.if-not-width_stays in
    let width-stays = c.width_stays in
    let pre = c.requires in
    rw (configure_is _ pre.sound _ _ pre.shared_at pre.n_value _
    (sym width-stays.ensures ∙ if1.false)) at one-step.ensures
