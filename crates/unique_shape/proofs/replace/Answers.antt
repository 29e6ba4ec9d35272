-- `unique_shape::replace` meets its contract. Assumes nothing.
use mathlib.Core.Path.{refl, sym, ◌∙◌}
use Rattle.store.specs.Layout.{parse}
use Rattle.theorems.specs.Uniques.{is_used_lem}
use Rattle.rules.specs.Replies.{handed_on}
use Rattle.fresh.specs.Room.{room, tables_differ, copy_ready, fresh_refused, fresh-put}
use Rattle.unique_shape.specs.OwnTable.{shape_place, own_table}
use Rattle.unique_shape.specs.Replacing.{emptied-room, in_place, replacement}
use Rattle.unique_shape.proofs.replace.Goals as goal

pub copy_keys-requires-clause-apart : goal.copy_keys-requires-clause-apart
copy_keys-requires-clause-apart c =
    let pre = c.requires in
    let its = room _ c.free_places.ensures c.in_ok-new.was in
    let apart = copy_ready its pre.sound _ (is_used_lem _ pre.sound _ pre.n_value) in
    rw c.get_shape-old.ensures apart

pub copy_keys-requires-clause-from_value : goal.copy_keys-requires-clause-from_value
copy_keys-requires-clause-from_value c =
    let pre = c.requires in
    let own = own_table _ pre.sound _ pre.n_value refl in
    rw c.get_shape-old.ensures own.differ

pub copy_keys-requires-clause-to_value : goal.copy_keys-requires-clause-to_value
copy_keys-requires-clause-to_value c =
    let its = room (parse c.args.image.now) c.free_places.ensures c.in_ok-new.was in
    its.table_free

pub hand_over-requires-clause-in_place : goal.hand_over-requires-clause-in_place
hand_over-requires-clause-in_place c =
    let pre = c.requires in
    let its = room _ c.free_places.ensures c.in_ok-new.was in
    let own = own_table _ pre.sound _ pre.n_value refl in
    in_place _ _ its c.copy_keys.ensures (shape_place _ pre.sound _ pre.n_value) own.place

pub returns-in_err-new : goal.returns-in_err-new
returns-in_err-new c =
    let pre = c.requires in
    let same = emptied-room _ _ _ pre.sound (is_used_lem _ pre.sound _ pre.n_value) in
    rw (handed_on _ _ c.from_residual.ensures.1)
    (fresh_refused _ (c.free_places.ensures ∙ sym same) _ c.in_err-new.was _ _)

pub returns : goal.returns
returns c =
    let pre = c.requires in
    let answer = c.free_places.ensures in
    let u = is_used_lem _ pre.sound _ pre.n_value in
    let same = emptied-room _ _ _ pre.sound u in
    let its = room _ answer c.in_ok-new.was in
    let own = own_table _ pre.sound _ pre.n_value refl in
    let copied = rw (c.get_shape-old.ensures, ← own.whole) at
    c.copy_keys.ensures in
    fresh-put _ (answer ∙ sym same) c.in_ok-new.was _ _
    (replacement _ _ its copied _ _ (tables_differ its pre.sound _ u) c.hand_over.ensures)
