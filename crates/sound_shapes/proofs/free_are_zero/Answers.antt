-- `sound_shapes::free_are_zero` meets its contract. Assumes nothing.
use Rattle.std.proofs.Common.{rules, tests, ◌+◌, arith, ◌∙◌, ap, ap₂, ◌&&◌}
use Rattle.std.proofs.lemmas.Iterator.{serves_from_Range, YieldsList-from_range}
use Rattle.std.proofs.lemmas.Iterator.Search.{all_from_yields_List}
use Rattle.store.specs.Model.{no_shape, no_edge, shape_at, edge_at}
use Rattle.store.specs.Layout.{parse}
use Rattle.store.specs.Scans.{shape-next, edge-next}
use Rattle.sound_shapes.specs.Tests.{shape_zero_if_free, edge_zero_if_free}
use Rattle.sound_shapes.specs.Sentences.{every_place, free_zero_lem}
use Rattle.sound_shapes.proofs.free_are_zero.Goals as goal

pub all-requires-clause-callable : goal.all-requires-clause-callable
all-requires-clause-callable c = serves_from_Range (λ x q k. search (rules, tests)) (λ x low high. search rules)

pub all-requires-2-clause-callable : goal.all-requires-2-clause-callable
all-requires-2-clause-callable c = serves_from_Range (λ x q k. search (rules, tests)) (λ x low high. search rules)

pub returns : goal.returns
returns c =
    let m = parse c.args.image.now in
    let shapes =
    all_from_yields_List (λ k. shape_zero_if_free (shape_at m (k + 1))) _ _ c.all.result c.all.ensures.ran
    (YieldsList-from_range 0 c.shape_count.result c.shape_count.result (search rules) (omega arith))
    (λ x b q k. search (rules, tests))
    ∙ every_place no_shape shape_zero_if_free m.shapes c.shape_count.ensures
    (λ k. ap shape_zero_if_free (shape-next m k)) in
    let edges =
    all_from_yields_List (λ k. edge_zero_if_free (edge_at m (k + 1))) _ _ c.all-2.result c.all-2.ensures.ran
    (YieldsList-from_range 0 c.edge_count.result c.edge_count.result (search rules) (omega arith))
    (λ x b q k. search (rules, tests))
    ∙ every_place no_edge edge_zero_if_free m.edges c.edge_count.ensures
    (λ k. ap edge_zero_if_free (edge-next m k)) in
    rw (free_zero_lem m) (ap₂ ◌&&◌ shapes edges)
