-- `forward_transition::get` meets its contract.
-- Assumes nothing.
use Rattle.std.proofs.Common.{ap, ◌∙◌}
use Rattle.rules.specs.Steps.{alike}
use Rattle.store.specs.Scans.{stopped, went_on, edge-next}
use mathlib.Core.Option.{some}
use Rattle.forward_transition.specs.Transitions.{found-dead, found_live}
use Rattle.forward_transition.proofs.get.Goals as goal

pub returns-then-e-eq0 : goal.returns-then-e-eq0
returns-then-e-eq0 c =
    let IsEdge-count = c.edge_count-count in
    let loop = c.loop-passed in
    let loop-test = c.loop-passed-test in
    let get-edge = c.get_edge-e in
    let agree = c.agree in
    let read = get-edge.ensures ∙ edge-next _ _ in
    found-dead _
    (ap some read
    ∙ stopped loop.invariant IsEdge-count.ensures loop-test.true
    (agree.ensures ∙ ap (alike c.args.wanted) read) c.if-agree.true) c.if-e-eq0.true

pub returns-then-agree : goal.returns-then-agree
returns-then-agree c =
    let IsEdge-count = c.edge_count-count in
    let loop = c.loop-passed in
    let loop-test = c.loop-passed-test in
    let get-edge = c.get_edge-e in
    let agree = c.agree in
    let read = get-edge.ensures ∙ edge-next _ _ in
    found_live _
    (ap some read
    ∙ stopped loop.invariant IsEdge-count.ensures loop-test.true
    (agree.ensures ∙ ap (alike c.args.wanted) read) c.if-agree.true) c.if-e-eq0.false

pub loop-passed-preserved : goal.loop-passed-preserved
loop-passed-preserved c =
    let IsEdge-count = c.edge_count-count in
    let loop = c.loop-passed in
    let loop-test = c.loop-passed-test in
    let get-edge = c.get_edge-e in
    let agree = c.agree in
    went_on loop.invariant IsEdge-count.ensures loop-test.true
    (agree.ensures ∙ ap (alike c.args.wanted) (get-edge.ensures ∙ edge-next _ _)) c.if-agree.false
