-- `unique_shape::insert_property_transition` meets its contract. Assumes nothing.
use native.Mathlib.Omega.{arith}
use Rattle.unique_shape.specs.OwnTable.{own_table, one-more-fits}
use Rattle.unique_shape.proofs.insert_property_transition.Goals as goal

pub append-requires-clause-place : goal.append-requires-clause-place
append-requires-clause-place c =
    let pre = c.requires in
    let own = own_table _ pre.sound _ pre.n_value c.get_shape-s.ensures in
    own.place

pub append-requires-clause-table_len_bound : goal.append-requires-clause-table_len_bound
append-requires-clause-table_len_bound c =
    let pre = c.requires in
    let own = own_table _ pre.sound _ pre.n_value c.get_shape-s.ensures in
    let fits = one-more-fits pre.formed own c.key_limit.ensures c.if-s-key_limit.false in
    fits.0

pub append-requires-clause-slotted : goal.append-requires-clause-slotted
append-requires-clause-slotted c =
    let pre = c.requires in
    let own = own_table _ pre.sound _ pre.n_value c.get_shape-s.ensures in
    own.slotted

pub overflow_add-s : goal.overflow_add-s
overflow_add-s c =
    let pre = c.requires in
    let own = own_table _ pre.sound _ pre.n_value c.get_shape-s.ensures in
    omega (arith, (one-more-fits pre.formed own c.key_limit.ensures c.if-s-key_limit.false).1)
