-- `property_table::key_count` meets its contract. Assumes nothing.
use borrow.Author.Rules.{rules}
use Rattle.property_table.specs.Copies.{entries_in, entries-few}
use Rattle.property_table.specs.KeyLists.{listed_below}
use Rattle.property_table.proofs.key_count.Goals as goal

pub overflow_add-result : goal.overflow_add-result
overflow_add-result c =
    let args = c.args in
    let strings = listed_below 0 (entries_in args.image.now args.first.table) args.first.count in
    let symbols = listed_below 1 (entries_in args.image.now args.first.table) args.first.count in
    let few = entries-few c.requires.formed args.first.table in
    search rules
