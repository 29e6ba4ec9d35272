-- `sound_shapes::labels::edge_is_good` meets its contract. Assumes nothing.
use Rattle.sound_shapes.specs.Labels.{parent_place, parent_keyed, child_in_range}
use Rattle.sound_shapes.specs.Labels.{live_fits}
use mathlib.Core.Path.{sym, ◌∙◌}
use Rattle.sound_shapes.proofs.labels.edge_is_good.Goals as goal

pub get_shape-parent-requires-clause-place : goal.get_shape-parent-requires-clause-place
get_shape-parent-requires-clause-place c =
    let pre = c.requires in
    let get-edge = c.get_edge-e in
    let if1 = c.if-e-eq0 in
    parent_place _ _ get-edge.ensures if1.false pre.steps_known.tables.ranges

pub child_is_good-requires-clause-child_in_bounds : goal.child_is_good-requires-clause-child_in_bounds
child_is_good-requires-clause-child_in_bounds c =
    let pre = c.requires in
    let get-edge = c.get_edge-e in
    let if1 = c.if-e-eq0 in
    child_in_range _ _ get-edge.ensures if1.false pre.steps_known.tables.ranges

pub label_is_good-requires-clause-keyed : goal.label_is_good-requires-clause-keyed
label_is_good-requires-clause-keyed c =
    let pre = c.requires in
    let get-shape = c.get_shape-parent in
    let if2 = c.if-parent-ne-SHARED in
    parent_keyed _ pre.steps_known.tables _ get-shape.ensures if2.false

pub label_is_good-requires-clause-live_fits : goal.label_is_good-requires-clause-live_fits
label_is_good-requires-clause-live_fits c =
    let pre = c.requires in
    let get-edge = c.get_edge-e in
    let if1 = c.if-e-eq0 in
    let get-shape = c.get_shape-parent in
    let child-is-good = c.child_is_good in
    let if3 = c.if-not-child_is_good in
    live_fits _ _ get-edge.ensures if1.false get-shape.ensures
    (sym child-is-good.ensures ∙ if3.false) pre.steps_known.stepped
