-- `sound_tables::good::table_good` meets its contract. Assumes nothing.
use mathlib.Core.Path.{◌∙◌}
use native.Mathlib.Omega.{arith}
use Rattle.store.specs.Tables.{entries_fit}
use Rattle.sound_tables.proofs.good.table_good.Goals as goal

pub first_are_distinct-requires-clause-roomy : goal.first_are_distinct-requires-clause-roomy
first_are_distinct-requires-clause-roomy c =
    let args = c.args in
    let pre = c.requires in
    let entry-count = c.entry_count in
    let count = entry-count.ensures in
    let fits = entries_fit pre.formed args.t in
    record {
      each = omega (arith, count, fits, pre.roomy.for_seats);
      small = omega (arith, count, fits, pre.formed.limited.keys);
    }
