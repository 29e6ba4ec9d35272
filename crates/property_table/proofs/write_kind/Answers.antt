-- `property_table::write_kind` meets its contract. Assumes nothing.
use Rattle.property_table.specs.KeyLists.{list_room, list_turn}
use Rattle.property_table.proofs.write_kind.Goals as goal

pub write_key-end-requires : goal.write_key-end-requires
write_key-end-requires c =
    let pre = c.requires in
    list_room c.loop-position.invariant pre.there.enough pre.room c.loop-position-test.true c.get_entry-e.ensures

pub loop-position-preserved : goal.loop-position-preserved
loop-position-preserved c =
    let write-key = c.write_key-end in
    let pre = c.requires in
    list_turn c.loop-position.invariant pre.there.enough pre.room c.loop-position-test.true c.get_entry-e.ensures
    write-key.ensures.value write-key.ensures.out_after
