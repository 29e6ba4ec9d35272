-- `sound_shapes::edges_good` meets its contract. Assumes nothing.
use Rattle.std.proofs.Common.{rules, tests, ◌+◌, arith, ◌∙◌, ap}
use Rattle.std.proofs.lemmas.Iterator.{serves_from_Range, YieldsList-from_range}
use Rattle.std.proofs.lemmas.Iterator.Search.{all_from_yields_List}
use Rattle.store.specs.Model.{no_edge, edge_at}
use Rattle.store.specs.Layout.{parse}
use Rattle.store.specs.Scans.{edge-next}
use Rattle.sound_shapes.specs.Tests.{good_edge}
use Rattle.sound_shapes.specs.Sentences.{every_place, edges_good_lem}
use Rattle.sound_shapes.proofs.edges_good.Goals as goal

pub all-requires-clause-callable : goal.all-requires-clause-callable
all-requires-clause-callable c = serves_from_Range (λ x q k. search (rules, tests)) (λ x low high. search rules)

pub returns : goal.returns
returns c =
    let m = parse c.args.image.now in
    let edges =
    all_from_yields_List (λ k. good_edge m (edge_at m (k + 1))) _ _ c.all.result c.all.ensures.ran
    (YieldsList-from_range 0 c.edge_count.result c.edge_count.result (search rules) (omega arith))
    (λ x b q k. search (rules, tests))
    ∙ every_place no_edge (good_edge m) m.edges c.edge_count.ensures (λ k. ap (good_edge m) (edge-next m k)) in
    rw (edges_good_lem m) edges
