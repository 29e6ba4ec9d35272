-- `sound_steps::steps::leads` meets its contract. Assumes nothing.
use Rattle.sound_shapes.specs.Labels.{keyed}
use Rattle.sound_steps.specs.StepLaws.{others_lead}
use Rattle.store.specs.Layout.{parse}
use Rattle.sound_steps.proofs.steps.leads.Goals as goal

pub may_configure-requires-clause-keyed : goal.may_configure-requires-clause-keyed
may_configure-requires-clause-keyed c =
    let pre = c.requires in
    keyed pre.image_value pre.tabled

pub returns : goal.returns
returns c =
    let args = c.args in
    let pre = c.requires in
    let entries-follow = c.entries_follow-follow in
    let prototype-after = c.prototype_after in
    let if1 = c.if-s-eq-CONFIGURE in
    others_lead (parse args.image.now) args.p args.s args.edge entries-follow.ensures
    prototype-after.ensures if1.false pre.image_value
