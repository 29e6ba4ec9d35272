-- `unique_shape::change_attributes_transition` meets its contract. Assumes nothing.
use mathlib.Core.Path.{sym}
use Rattle.unique_shape.specs.OwnTable.{own_table}
use Rattle.unique_shape.specs.Rules.{its-entry, change_same, change-moved}
use Rattle.unique_shape.proofs.change_attributes_transition.Goals as goal

pub set_attributes_at_index-requires-clause-place : goal.set_attributes_at_index-requires-clause-place
set_attributes_at_index-requires-clause-place c =
    let get-shape = c.get_shape-s in
    let pre = c.requires in
    let read = get-shape.ensures in
    let own = own_table _ pre.sound _ pre.n_value read in
    own.place

pub set_attributes_at_index-requires-clause-position_in_bounds : goal.set_attributes_at_index-requires-clause-position_in_bounds
set_attributes_at_index-requires-clause-position_in_bounds c =
    let find-held = c.find_held in
    let get-shape = c.get_shape-s in
    let pre = c.requires in
    let read = get-shape.ensures in
    let own = own_table _ pre.sound _ pre.n_value read in
    let its = its-entry _ _ _ (sym find-held.ensures) in
    rw (← read, own.whole) at its.inside

pub set_attributes_at_index-requires-clause-table_value : goal.set_attributes_at_index-requires-clause-table_value
set_attributes_at_index-requires-clause-table_value c =
    let get-shape = c.get_shape-s in
    let pre = c.requires in
    let read = get-shape.ensures in
    let own = own_table _ pre.sound _ pre.n_value read in
    own.differ

pub returns-then-width_match : goal.returns-then-width_match
returns-then-width_match c =
    let set-attributes-at-index = c.set_attributes_at_index in
    let if1 = c.if-width_match in
    let width-match = c.width_match in
    let find-held = c.find_held in
    let get-shape = c.get_shape-s in
    let pre = c.requires in
    let own = own_table _ pre.sound _ pre.n_value get-shape.ensures in
    change_same _ _ _ (sym find-held.ensures) _ width-match.ensures get-shape.ensures own
    if1.true set-attributes-at-index.ensures

pub replace-requires-clause-can_copy : goal.replace-requires-clause-can_copy
replace-requires-clause-can_copy c =
    let find-held = c.find_held in
    let pre = c.requires in
    let its = its-entry _ _ _ (sym find-held.ensures) in
    (its.inside, pre.attributes_le_most_stored)

pub returns : goal.returns
returns c =
    let replace = c.replace in
    let if1 = c.if-width_match in
    let width-match = c.width_match in
    let find-held = c.find_held in
    let get-shape = c.get_shape-s in
    change-moved _ _ _ (sym find-held.ensures) _ width-match.ensures _ _ get-shape.ensures
    if1.false replace.ensures
