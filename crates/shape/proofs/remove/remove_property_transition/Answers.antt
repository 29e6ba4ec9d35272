-- `shape::remove::remove_property_transition` meets its contract. Assumes nothing.
use mathlib.Core.Path.{sym, ◌∙◌}
use Rattle.rules.specs.declared.ChangeTransitionAction.TheVariants.{Nothing}
use Rattle.holds.specs.Granted.{named, result_place, rule-granted}
use Rattle.shape.specs.Grantable.{removal_grantable}
use Rattle.shape.specs.Refused.{removal_is, held_if_shared}
use Rattle.shape.proofs.remove.remove_property_transition.Goals as goal

pub grant_placed-requires : goal.grant_placed-requires
grant_placed-requires c =
    let key = sym c.good_key.ensures ∙ c.if-not-good_key.false in
    let its = named c.held.ensures c.in_ok-held.was in
    let held = held_if_shared _ _ _ key c.requires.sound its.may c.is_unique.ensures c.has_key.ensures
    c.if-is_unique-has_key.false in
    let may-grant = removal_grantable _ c.requires.sound _ its.may _ held in
    let both = result_place _ _ c.requires.formed _ _ c.place-placed.ensures may-grant.in_use in
    record { formed = both.0; in_place = both.1 }

pub returns : goal.returns
returns c =
    let key = sym c.good_key.ensures ∙ c.if-not-good_key.false in
    let its = named c.held.ensures c.in_ok-held.was in
    let held = held_if_shared _ _ _ key c.requires.sound its.may c.is_unique.ensures c.has_key.ensures
    c.if-is_unique-has_key.false in
    let may-grant = removal_grantable _ c.requires.sound _ its.may _ held in
    rw (removal_is _ _ _ key c.requires.sound its.may c.is_unique.ensures c.has_key.ensures
    c.if-is_unique-has_key.false)
    (rule-granted _ _ c.requires.formed _ _ c.place-placed.ensures Nothing _ _ may-grant.unwritten
    c.grant_placed.ensures)
