-- `fresh::new_shape` meets its contract. Assumes nothing.
use mathlib.Core.List.{[]}
use Rattle.rules.specs.Shapes.{standing}
use Rattle.rules.specs.Replies.{handed_on}
use Rattle.fresh.specs.Room.{room, shape_ready, fresh_refused, fresh-made}
use Rattle.fresh.proofs.new_shape.Goals as goal

pub start_table-requires : goal.start_table-requires
start_table-requires c =
    let its = room _ c.free_places.ensures c.in_ok-places.was in
    record { formed = c.requires; place = its.table; t_value = its.table_free }

pub put_standing-requires : goal.put_standing-requires
put_standing-requires c =
    let both = shape_ready (room _ c.free_places.ensures c.in_ok-places.was) c.start_table.ensures in
    record { formed = both.0; place = both.1 }

pub returns-in_err-places : goal.returns-in_err-places
returns-in_err-places c =
    rw (handed_on _ _ c.from_residual.ensures.1)
    (fresh_refused _ c.free_places.ensures _ c.in_err-places.was (standing _ 0 0 0) [])

pub returns : goal.returns
returns c =
    fresh-made c.free_places.ensures c.in_ok-places.was (standing _ 0 0 0) []
    c.start_table.ensures c.put_standing.ensures
