-- `sound_tables::used::every_unique_alone` meets its contract. Assumes nothing.
use Rattle.std.proofs.Common.{rules, tests, refl, ◌+◌, arith, ◌∙◌}
use Rattle.std.proofs.lemmas.Iterator.{serves_from_Range, YieldsList-from_range}
use Rattle.std.proofs.lemmas.Iterator.Search.{all_from_yields_List}
use Rattle.store.specs.Model.{no_shape, shape_at}
use Rattle.store.specs.Layout.{parse}
use Rattle.sound_tables.specs.Used.{unique_alone, alone_in, alone_at, shape_sited, every_numbered}
use Rattle.sound_tables.proofs.used.every_unique_alone.Goals as goal

pub all-requires-clause-callable : goal.all-requires-clause-callable
all-requires-clause-callable c =
    serves_from_Range (λ x q k. search (rules, tests)) (λ x low high. search (rules, shape_sited))

pub returns : goal.returns
returns c =
    let m = parse c.args.image.now in
    let counts = c.args.users.now in
    let pre = c.requires in
    let many = c.shape_count.result in
    all_from_yields_List (λ k. alone_in counts (shape_at m (k + 1))) _ _ c.all.result c.all.ensures.ran
    (YieldsList-from_range 0 many many (search rules) (omega arith)) (λ x b q k. search (rules, tests))
    ∙ every_numbered no_shape (unique_alone m) m.shapes c.shape_count.ensures
    (λ k l. alone_at k pre.users (shape_sited pre.formed pre.image_value counts k pre.users.roomy refl) refl refl)
