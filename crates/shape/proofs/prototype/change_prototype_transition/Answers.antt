-- `shape::prototype::change_prototype_transition` meets its contract. Assumes nothing.
use Rattle.rules.specs.declared.ChangeTransitionAction.TheVariants.{Nothing}
use Rattle.holds.specs.Granted.{named, result_place, rule-granted}
use Rattle.shape.specs.Grantable.{prototype_grantable}
use Rattle.shape.specs.Refused.{prototype_is}
use Rattle.shape.proofs.prototype.change_prototype_transition.Goals as goal

pub grant_placed-requires : goal.grant_placed-requires
grant_placed-requires c =
    let its = named c.held.ensures c.in_ok-held.was in
    let may-grant = prototype_grantable _ c.requires.sound _ its.may c.args.to in
    let both = result_place _ _ c.requires.formed _ _ c.place-placed.ensures may-grant.in_use in
    record { formed = both.0; in_place = both.1 }

pub returns : goal.returns
returns c =
    let its = named c.held.ensures c.in_ok-held.was in
    let may-grant = prototype_grantable _ c.requires.sound _ its.may c.args.to in
    rw (prototype_is _ _ c.args.to its.may)
    (rule-granted _ _ c.requires.formed _ _ c.place-placed.ensures Nothing _ _ may-grant.unwritten
    c.grant_placed.ensures)
