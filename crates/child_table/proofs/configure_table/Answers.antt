-- `child_table::configure_table` meets its contract. Assumes nothing.
use mathlib.Core.Path.{refl}
use Rattle.rules.specs.Placing.{places}
use Rattle.child_table.specs.Parents.{its-place, is_held, keys_differ, apart, configure_copies}
use Rattle.child_table.specs.Parents.{position_inside, changed}
use Rattle.child_table.proofs.configure_table.Goals as goal

pub position_of_held-position-requires : goal.position_of_held-position-requires
position_of_held-position-requires c =
    let pre = c.requires in
    rw c.of.ensures record {
      formed = pre.formed;
      there = record { place = its-place pre.parent; enough = pre.parent.fits };
      held = is_held pre.parent;
    }

pub copy_changed-requires-clause-apart : goal.copy_changed-requires-clause-apart
copy_changed-requires-clause-apart c =
    let pre = c.requires in
    let lowest-free-table = c.lowest_free_table-table in
    let parent = pre.parent in
    let copy = configure_copies parent pre.passes lowest-free-table.ensures in
    apart parent copy

pub copy_changed-requires-clause-to_value : goal.copy_changed-requires-clause-to_value
copy_changed-requires-clause-to_value c =
    let pre = c.requires in
    let lowest-free-table = c.lowest_free_table-table in
    let parent = pre.parent in
    let copy = configure_copies parent pre.passes lowest-free-table.ensures in
    copy.is_free

pub copy_changed-requires-clause-position_in_bounds : goal.copy_changed-requires-clause-position_in_bounds
copy_changed-requires-clause-position_in_bounds c =
    let pre = c.requires in
    let position-of-held = c.position_of_held-position in
    let parent = pre.parent in
    let inside = position_inside parent (rw c.of.ensures at position-of-held.ensures) in
    inside

pub copy_changed-requires-clause-from_value : goal.copy_changed-requires-clause-from_value
copy_changed-requires-clause-from_value c =
    let pre = c.requires in
    let parent = pre.parent in
    keys_differ parent

pub copy_changed-requires-clause-attributes_le_most_stored : goal.copy_changed-requires-clause-attributes_le_most_stored
copy_changed-requires-clause-attributes_le_most_stored c =
    let pre = c.requires in
    let parent = pre.parent in
    parent.low

pub shape_of-image : goal.shape_of-image
shape_of-image c = c.copy_changed.ensures.long

pub returns : goal.returns
returns c =
    let pre = c.requires in
    let position-of-held = c.position_of_held-position in
    let lowest-free-table = c.lowest_free_table-table in
    let copy-changed = c.copy_changed in
    let parent = pre.parent in
    let copy = configure_copies parent pre.passes lowest-free-table.ensures in
    let same = changed parent (rw c.of.ensures at position-of-held.ensures) in
    places copy.gave (rw same at copy-changed.ensures) refl
