-- `sound_shapes::in_range` meets its contract. Assumes nothing.
use Rattle.std.proofs.Common.{rules, tests, ◌+◌, arith, ◌∙◌, ap, ap₂, ◌&&◌}
use Rattle.std.proofs.lemmas.Iterator.{serves_from_Range, YieldsList-from_range}
use Rattle.std.proofs.lemmas.Iterator.Search.{all_from_yields_List}
use Rattle.store.specs.Model.{no_shape, no_edge, shape_at, edge_at}
use Rattle.store.specs.Layout.{parse}
use Rattle.store.specs.Scans.{shape-next, edge-next}
use Rattle.sound_shapes.specs.Tests.{shape_in_range, edge_in_range}
use Rattle.sound_shapes.specs.Sentences.{every_place, in_range_lem}
use Rattle.sound_shapes.proofs.in_range.Goals as goal

pub all-requires-clause-callable : goal.all-requires-clause-callable
all-requires-clause-callable c = serves_from_Range (λ x q k. search (rules, tests)) (λ x low high. search rules)

pub all-requires-2-clause-callable : goal.all-requires-2-clause-callable
all-requires-2-clause-callable c = serves_from_Range (λ x q k. search (rules, tests)) (λ x low high. search rules)

pub returns : goal.returns
returns c =
    let m = parse c.args.image.now in
    let shapes = c.shape_count-shapes.result in
    let tables = c.table_count-tables.result in
    let edges = c.edge_count.result in
    let shape_test = shape_in_range shapes tables in
    let edge_test = edge_in_range shapes in
    let shapes_all =
    all_from_yields_List (λ k. shape_test (shape_at m (k + 1))) _ _ c.all.result c.all.ensures.ran
    (YieldsList-from_range 0 shapes shapes (search rules) (omega arith)) (λ x b q k. search (rules, tests))
    ∙ every_place no_shape shape_test m.shapes c.shape_count-shapes.ensures (λ k. ap shape_test (shape-next m k)) in
    let edges_all =
    all_from_yields_List (λ k. edge_test (edge_at m (k + 1))) _ _ c.all-2.result c.all-2.ensures.ran
    (YieldsList-from_range 0 edges edges (search rules) (omega arith)) (λ x b q k. search (rules, tests))
    ∙ every_place no_edge edge_test m.edges c.edge_count.ensures (λ k. ap edge_test (edge-next m k)) in
    rw (in_range_lem m, ← c.shape_count-shapes.ensures, ← c.table_count-tables.ensures)
    (ap₂ ◌&&◌ shapes_all edges_all)
