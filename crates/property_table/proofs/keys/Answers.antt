-- `property_table::keys` meets its contract. Assumes nothing.
use borrow.Author.Rules.{rules}
use lib.ListN.{take}
use Rattle.property_table.specs.Copies.{entries_in, entries-few}
use Rattle.property_table.specs.KeyLists.{listed, listed_below, both-written}
use Rattle.property_table.proofs.keys.Goals as goal

pub overflow_cast-result : goal.overflow_cast-result
overflow_cast-result c =
    let args = c.args in
    let es = entries_in args.image.now args.first.table in
    let few = entries-few c.requires.formed args.first.table in
    let first = listed_below 0 es args.first.count in
    let second = listed_below 1 es args.first.count in
    search rules

pub returns : goal.returns
returns c =
    let args = c.args in
    let own = take args.first.count (entries_in args.image.now args.first.table) in
    let ends = c.write_kind-strings.ensures.value in
    let wrote = c.write_kind-strings.ensures.out_after in
    let all = c.write_kind.ensures.value in
    let last = c.write_kind.ensures.out_after in
    let both = both-written args.out.now (listed 0 own) (listed 1 own) c.requires.room ends wrote all last in
    record { value = both.0; out_after = both.1 }
