-- `plan::budget::room_at` meets its contract. Assumes nothing.
use native.Mathlib.Omega.{arith}
use Rattle.store.specs.Model.{free_edge}
use Rattle.store.specs.Layout.{parse}
use Rattle.store.specs.ListLaws.{length-keep}
use Rattle.theorems.specs.Facts.{used_place_inside, table-inside, keys_fit}
use Rattle.plan.specs.Budget.{room-read}
use Rattle.plan.proofs.budget.room_at.Goals as goal

pub get_shape-shape-requires-clause-place : goal.get_shape-shape-requires-clause-place
get_shape-shape-requires-clause-place c =
    let pre = c.requires in
    used_place_inside _ _ pre.used

pub entry_count-entries-requires-clause-place : goal.entry_count-entries-requires-clause-place
entry_count-entries-requires-clause-place c =
    let pre = c.requires in
    rw c.get_shape-shape.ensures (table-inside _ pre.sound _ pre.used)

pub overflow_sub-result : goal.overflow_sub-result
overflow_sub-result c =
    let get-shape = c.get_shape-shape in
    let pre = c.requires in
    rw (get-shape.ensures, c.key_limit.ensures) (keys_fit _ pre.sound _ pre.used)

pub overflow_add-result : goal.overflow_add-result
overflow_add-result c =
    let args = c.args in
    let pre = c.requires in
    let m = parse args.image.now in
    let free = length-keep free_edge m.edges in
    let all = pre.formed.limited.edges in
    record { fits = omega (arith, c.free_edges.ensures, pre.back_bound) }

pub returns : goal.returns
returns c =
    let args = c.args in
    let get-shape = c.get_shape-shape in
    let key-limit = c.key_limit in
    let entry-count = c.entry_count-entries in
    let free-shapes = c.free_shapes in
    room-read (parse args.image.now) args.place args.back get-shape.ensures key-limit.ensures
    entry-count.ensures free-shapes.ensures c.free_tables.ensures c.free_edges.ensures
