-- `shape::insert::insert` meets its contract. Assumes nothing.
use mathlib.Core.Path.{sym, ◌∙◌}
use Rattle.store.specs.ListLaws.{and_both}
use Rattle.rules.specs.declared.ChangeTransitionAction.TheVariants.{Nothing}
use Rattle.holds.specs.Granted.{result_place, rule-granted}
use Rattle.shape.specs.FullHolds.{insert_full}
use Rattle.shape.specs.Grantable.{insert_grantable}
use Rattle.shape.proofs.insert.insert.Goals as goal

pub returns-then-is_unique-is_full : goal.returns-then-is_unique-is_full
returns-then-is_unique-is_full c =
    let pre = c.requires in
    let (u, full) = and_both _ c.if-is_unique-is_full.true in
    rw c.refusal_of_full.ensures
    (insert_full _ pre.sound _ pre.n_value (sym c.is_unique.ensures ∙ u) (sym c.is_full.ensures ∙ full) _ _
    pre.key_value pre.attributes_le_most_stored pre.n_value_2 Nothing)

pub grant_placed-requires : goal.grant_placed-requires
grant_placed-requires c =
    let pre = c.requires in
    let room = rw (c.is_unique.ensures, c.is_full.ensures) at c.if-is_unique-is_full.false in
    let may-grant = insert_grantable _ pre.sound _ pre.n_value _ _ pre.key_value pre.attributes_le_most_stored
    pre.n_value_2 room in
    let both = result_place _ _ pre.formed _ _ c.place-placed.ensures may-grant.in_use in
    record { formed = both.0; in_place = both.1 }

pub returns : goal.returns
returns c =
    let pre = c.requires in
    let room = rw (c.is_unique.ensures, c.is_full.ensures) at c.if-is_unique-is_full.false in
    let may-grant = insert_grantable _ pre.sound _ pre.n_value _ _ pre.key_value pre.attributes_le_most_stored
    pre.n_value_2 room in
    rule-granted _ _ pre.formed _ _ c.place-placed.ensures Nothing _ _ may-grant.unwritten c.grant_placed.ensures
