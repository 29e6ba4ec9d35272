-- `shape::change::change` meets its contract. Assumes nothing.
use mathlib.Core.Path.{sym, ◌∙◌}
use Rattle.store.specs.ListLaws.{and_both}
use Rattle.holds.specs.Granted.{result_place, rule-granted}
use Rattle.shape.specs.FullHolds.{change-full}
use Rattle.shape.specs.Grantable.{change_grantable}
use Rattle.shape.proofs.change.change.Goals as goal

pub returns-then-is_unique-width_match : goal.returns-then-is_unique-width_match
returns-then-is_unique-width_match c =
    let pre = c.requires in
    let (both, full) = and_both _ c.if-is_unique-width_match.true in
    let (u, wide) = and_both _ both in
    change-full _ pre.sound _ pre.n_value (sym c.is_unique.ensures ∙ u) (sym c.is_full.ensures ∙ full) _ _
    pre.key_value pre.attributes_le_most_stored pre.n_value_2 (rw (c.width_match.ensures, pre.value) at wide) _

pub grant_placed-requires : goal.grant_placed-requires
grant_placed-requires c =
    let pre = c.requires in
    let room = rw (c.is_unique.ensures, c.width_match.ensures, c.is_full.ensures, pre.value) at
    c.if-is_unique-width_match.false in
    let may-grant = change_grantable _ pre.sound _ pre.n_value _ _ pre.key_value pre.attributes_le_most_stored
    pre.n_value_2 room in
    let both = result_place _ _ pre.formed _ _ c.place-placed.ensures may-grant.in_use in
    record { formed = both.0; in_place = both.1 }

pub returns : goal.returns
returns c =
    let pre = c.requires in
    let room = rw (c.is_unique.ensures, c.width_match.ensures, c.is_full.ensures, pre.value) at
    c.if-is_unique-width_match.false in
    let may-grant = change_grantable _ pre.sound _ pre.n_value _ _ pre.key_value pre.attributes_le_most_stored
    pre.n_value_2 room in
    rw c.action_for.ensures at
    (rule-granted _ _ pre.formed _ _ c.place-placed.ensures _ _ _ may-grant.unwritten c.grant_placed.ensures)
