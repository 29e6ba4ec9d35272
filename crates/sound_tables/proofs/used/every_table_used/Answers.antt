-- `sound_tables::used::every_table_used` meets its contract. Assumes nothing.
use Rattle.std.proofs.Common.{rules, tests, refl, ◌+◌, arith, ◌∙◌}
use Rattle.std.proofs.lemmas.Iterator.{serves_from_Range, YieldsList-from_range}
use Rattle.std.proofs.lemmas.Iterator.Search.{all_from_yields_List}
use Rattle.store.specs.Model.{free, table_at}
use Rattle.store.specs.Layout.{parse}
use Rattle.sound_tables.specs.Used.{table_used, table-at, every_numbered}
use Rattle.sound_tables.proofs.used.every_table_used.Goals as goal

pub all-requires-clause-callable : goal.all-requires-clause-callable
all-requires-clause-callable c = serves_from_Range (λ x q k. search (rules, tests)) (λ x low high. search rules)

pub returns : goal.returns
returns c =
    let m = parse c.args.image.now in
    let many = c.table_count.result in
    all_from_yields_List (λ k. table_used m (k + 1, table_at m (k + 1))) _ _ c.all.result c.all.ensures.ran
    (YieldsList-from_range 0 many many (search rules) (omega arith)) (λ x b q k. search (rules, tests))
    ∙ every_numbered free (table_used m) m.tables c.table_count.ensures (λ k l. table-at m k refl)
