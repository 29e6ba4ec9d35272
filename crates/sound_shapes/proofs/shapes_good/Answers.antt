-- `sound_shapes::shapes_good` meets its contract. Assumes nothing.
use Rattle.std.proofs.Common.{rules, tests, ◌+◌, arith, ◌∙◌, ap}
use Rattle.std.proofs.lemmas.Iterator.{serves_from_Range, YieldsList-from_range}
use Rattle.std.proofs.lemmas.Iterator.Search.{all_from_yields_List}
use Rattle.store.specs.Model.{no_shape, shape_at}
use Rattle.store.specs.Layout.{parse}
use Rattle.store.specs.Scans.{shape-next}
use Rattle.sound_shapes.specs.Tests.{good_shape}
use Rattle.sound_shapes.specs.Sentences.{every_place, shapes_good}
use Rattle.sound_shapes.proofs.shapes_good.Goals as goal

pub all-requires-clause-callable : goal.all-requires-clause-callable
all-requires-clause-callable c = serves_from_Range (λ x q k. search (rules, tests)) (λ x low high. search rules)

pub returns : goal.returns
returns c =
    let m = parse c.args.image.now in
    let shapes =
    all_from_yields_List (λ k. good_shape m (shape_at m (k + 1))) _ _ c.all.result c.all.ensures.ran
    (YieldsList-from_range 0 c.shape_count.result c.shape_count.result (search rules) (omega arith))
    (λ x b q k. search (rules, tests))
    ∙ every_place no_shape (good_shape m) m.shapes c.shape_count.ensures (λ k. ap (good_shape m) (shape-next m k)) in
    rw (shapes_good m) shapes
