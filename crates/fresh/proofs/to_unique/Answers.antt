-- `fresh::to_unique` meets its contract. Assumes nothing.
use Rattle.store.specs.Layout.{parse}
use Rattle.store.specs.Model.{shape_at}
use Rattle.rules.specs.Shapes.{entries, unique_shape}
use Rattle.theorems.specs.Facts.{used_place_inside}
use Rattle.rules.specs.Replies.{handed_on}
use Rattle.fresh.specs.Room.{room, shape_ready, copy_ready, fresh_refused, fresh-made}
use Rattle.fresh.proofs.to_unique.Goals as goal

pub get_shape-s-requires-clause-place : goal.get_shape-s-requires-clause-place
get_shape-s-requires-clause-place c = used_place_inside _ _ c.requires.used

pub copy_entries-requires-clause-apart : goal.copy_entries-requires-clause-apart
copy_entries-requires-clause-apart c =
    let its = room _ c.free_places.ensures c.in_ok-places.was in
    rw c.get_shape-s.ensures (copy_ready its c.requires.sound _ c.requires.used)

pub copy_entries-requires-clause-to_value : goal.copy_entries-requires-clause-to_value
copy_entries-requires-clause-to_value c = (room _ c.free_places.ensures c.in_ok-places.was).table_free

pub put_unique-requires : goal.put_unique-requires
put_unique-requires c =
    let both = shape_ready (room _ c.free_places.ensures c.in_ok-places.was) c.copy_entries.ensures in
    record { formed = both.0; place = both.1 }

pub returns-in_err-places : goal.returns-in_err-places
returns-in_err-places c =
    rw (handed_on _ _ c.from_residual.ensures.1)
    (fresh_refused _ c.free_places.ensures _ c.in_err-places.was _ _)

pub returns : goal.returns
returns c =
    let m = parse c.args.image.now in
    let s = shape_at m c.args.n in
    let read = c.get_shape-s.ensures in
    fresh-made c.free_places.ensures c.in_ok-places.was
    (unique_shape 0 s.properties s.prototype) (entries m s)
    (rw read at c.copy_entries.ensures)
    (rw read at c.put_unique.ensures)
