-- `property_table::count_kind` meets its contract. Assumes nothing.
use Prim.Native.Nat.{◌+◌}
use native.Mathlib.Omega.{arith}
use borrow.Author.Rules.{rules}
use Rattle.property_table.specs.Copies.{entries_in, entries-few}
use Rattle.property_table.specs.KeyLists.{listed_below, counted-more}
use Rattle.property_table.proofs.count_kind.Goals as goal

pub overflow_add-n : goal.overflow_add-n
overflow_add-n c =
    let es = entries_in c.args.image.now c.args.first.table in
    let i = c.loop-position.position in
    let inside = c.requires.there.enough in
    let test = c.loop-position-test.true in
    let sum = counted-more c.args.kind i es (omega arith) c.loop-position.invariant c.get_entry-e.ensures
    c.from-n.ensures in
    let below = listed_below c.args.kind es (i + 1) in
    let few = entries-few c.requires.formed c.args.first.table in
    search rules

pub loop-position-preserved : goal.loop-position-preserved
loop-position-preserved c =
    let es = entries_in c.args.image.now c.args.first.table in
    let inside = c.requires.there.enough in
    let test = c.loop-position-test.true in
    counted-more c.args.kind c.loop-position.position es (omega arith) c.loop-position.invariant
    c.get_entry-e.ensures c.from-n.ensures
