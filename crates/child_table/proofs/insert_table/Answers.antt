-- `child_table::insert_table` meets its contract. Assumes nothing.
use mathlib.Core.Path.{refl, ◌∙◌}
use Rattle.rules.specs.Placing.{places}
use Rattle.property_table.specs.Copies.{appended-after}
use Rattle.property_table.specs.OneKey.{key_ready}
use Rattle.child_table.specs.Parents.{its-place, its_slots, apart, has_room, appends, has_fewer}
use Rattle.child_table.specs.Parents.{insert_copies}
use Rattle.child_table.proofs.insert_table.Goals as goal

pub entry_count-requires-clause-place : goal.entry_count-requires-clause-place
entry_count-requires-clause-place c = its-place c.requires.parent

pub append-requires-clause-place : goal.append-requires-clause-place
append-requires-clause-place c =
    let pre = c.requires in
    let parent = pre.parent in
    its-place parent

pub append-requires-clause-table_value : goal.append-requires-clause-table_value
append-requires-clause-table_value c =
    let pre = c.requires in
    let parent = pre.parent in
    parent.in_use

pub append-requires-clause-table_len_bound : goal.append-requires-clause-table_len_bound
append-requires-clause-table_len_bound c =
    let pre = c.requires in
    let parent = pre.parent in
    let whole = c.if-s-entry_count.true ∙ c.entry_count.ensures in
    has_room parent whole

pub append-requires-clause-slotted : goal.append-requires-clause-slotted
append-requires-clause-slotted c =
    let pre = c.requires in
    let parent = pre.parent in
    its_slots parent

pub shape_of-image-then-s-entry_count : goal.shape_of-image-then-s-entry_count
shape_of-image-then-s-entry_count c = c.append.ensures.long

pub returns-then-s-entry_count : goal.returns-then-s-entry_count
returns-then-s-entry_count c =
    let pre = c.requires in
    places (appends pre.parent (c.if-s-entry_count.true ∙ c.entry_count.ensures))
    c.append.ensures refl

pub copy_entries-requires-clause-apart : goal.copy_entries-requires-clause-apart
copy_entries-requires-clause-apart c =
    let pre = c.requires in
    let parent = pre.parent in
    let count = c.entry_count.ensures in
    let other = c.if-s-entry_count.false in
    let lowest = c.lowest_free_table-table.ensures in
    let copy = insert_copies parent count other pre.passes lowest in
    apart parent copy

pub copy_entries-requires-clause-to_value : goal.copy_entries-requires-clause-to_value
copy_entries-requires-clause-to_value c =
    let pre = c.requires in
    let parent = pre.parent in
    let count = c.entry_count.ensures in
    let other = c.if-s-entry_count.false in
    let lowest = c.lowest_free_table-table.ensures in
    let copy = insert_copies parent count other pre.passes lowest in
    copy.is_free

pub copy_entries-requires-clause-count_in_bounds : goal.copy_entries-requires-clause-count_in_bounds
copy_entries-requires-clause-count_in_bounds c =
    let pre = c.requires in
    let parent = pre.parent in
    parent.fits

pub append-requires-2 : goal.append-requires-2
append-requires-2 c =
    let pre = c.requires in
    let parent = pre.parent in
    let count = c.entry_count.ensures in
    let other = c.if-s-entry_count.false in
    let lowest = c.lowest_free_table-table.ensures in
    let copy = insert_copies parent count other pre.passes lowest in
    let first = c.copy_entries.ensures in
    let rest = key_ready pre.formed (apart parent copy) count (has_fewer parent count other) first in
    record { formed = first.formed; place = rest.0; table_value = rest.1.0; table_len_bound = rest.1.1.0; slotted = rest.1.1.1 }

pub shape_of-image : goal.shape_of-image
shape_of-image c = c.append-2.ensures.long ∙ c.copy_entries.ensures.long

pub returns : goal.returns
returns c =
    let pre = c.requires in
    let parent = pre.parent in
    let count = c.entry_count.ensures in
    let other = c.if-s-entry_count.false in
    let lowest = c.lowest_free_table-table.ensures in
    let copy = insert_copies parent count other pre.passes lowest in
    let first = c.copy_entries.ensures in
    let more = c.append-2.ensures in
    places copy.gave (appended-after (apart parent copy) _ first _ _ more) refl
