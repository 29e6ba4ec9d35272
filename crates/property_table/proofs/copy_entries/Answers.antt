-- `property_table::copy_entries` meets its contract. Assumes nothing.
use mathlib.Core.List.{[]}
use native.Mathlib.Omega.{arith}
use Rattle.store.specs.Tables.{entries_fit}
use Rattle.property_table.specs.Copies.{copyable_after, none_slotted, copied-first}
use Rattle.property_table.proofs.copy_entries.Goals as goal

pub append_entries-requires-clause-copyable : goal.append_entries-requires-clause-copyable
append_entries-requires-clause-copyable c =
    let pre = c.requires in
    let fit = entries_fit pre.formed c.args.from in
    let few = pre.count_in_bounds in
    copyable_after pre.apart [] c.start_table.ensures none_slotted
    (omega arith) few (omega arith)

pub returns : goal.returns
returns c =
    copied-first c.requires.apart c.start_table.ensures c.args.count c.append_entries.ensures
