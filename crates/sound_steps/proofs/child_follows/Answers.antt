-- `sound_steps::child_follows` meets its contract. Assumes nothing.
use mathlib.Core.Path.{sym, ◌∙◌}
use mathlib.Core.Bool.{◌&&◌}
use Prim.Native.Nat.{◌+◌}
use lib.Dec.{eqb}
use Rattle.store.specs.ListLaws.{and_both}
use Rattle.rules.specs.Shapes.{shared}
use Rattle.sound_steps.specs.Children.{shared_tabled, previous_place, not-joined}
use Rattle.sound_steps.specs.Children.{joined}
use Rattle.sound_steps.proofs.child_follows.Goals as goal

pub get_shape-p-requires-clause-place : goal.get_shape-p-requires-clause-place
get_shape-p-requires-clause-place c =
    let pre = c.requires in
    let get-shape = c.get_shape-s in
    let is-child = c.is_child in
    let if1 = c.if-not-is_child in
    let child = sym is-child.ensures ∙ if1.false in
    previous_place _ _ get-shape.ensures child pre.tables_known.ranges

pub returns-then-not-is_joined : goal.returns-then-not-is_joined
returns-then-not-is_joined c =
    let pre = c.requires in
    let get-shape = c.get_shape-s in
    let is-child = c.is_child in
    let if1 = c.if-not-is_child in
    let get-shape2 = c.get_shape-p in
    let names-no-edge = c.names_no_edge in
    let if2 = c.if-names_no_edge in
    let get-edge = c.get_edge-edge in
    let is-joined = c.is_joined in
    let if3 = c.if-not-is_joined in
    let child = sym is-child.ensures ∙ if1.false in
    not-joined _ _ get-shape.ensures child get-shape2.ensures pre.marked
    (sym names-no-edge.ensures ∙ if2.false) get-edge.ensures
    (sym is-joined.ensures ∙ if3.true)

pub leads-requires-clause-tabled : goal.leads-requires-clause-tabled
leads-requires-clause-tabled c =
    let pre = c.requires in
    let get-shape = c.get_shape-s in
    let get-shape2 = c.get_shape-p in
    let is-joined = c.is_joined in
    let if3 = c.if-not-is_joined in
    let s = get-shape.result in
    let p = get-shape2.result in
    let joins = sym is-joined.ensures ∙ if3.false in
    let (known, _) = and_both (shared p && eqb s.transitions (p.transitions + 1)) joins in
    shared_tabled pre.tables_known _ get-shape2.ensures (and_both (shared p) known).0

pub leads-requires-clause-tabled_2 : goal.leads-requires-clause-tabled_2
leads-requires-clause-tabled_2 c =
    let pre = c.requires in
    let get-shape = c.get_shape-s in
    let is-child = c.is_child in
    let if1 = c.if-not-is_child in
    let get-shape2 = c.get_shape-p in
    let is-joined = c.is_joined in
    let if3 = c.if-not-is_joined in
    let s = get-shape.result in
    let p = get-shape2.result in
    let child = sym is-child.ensures ∙ if1.false in
    let joins = sym is-joined.ensures ∙ if3.false in
    let (known, _) = and_both (shared p && eqb s.transitions (p.transitions + 1)) joins in
    shared_tabled pre.tables_known _ get-shape.ensures (and_both (shared s) child).0

pub returns : goal.returns
returns c =
    let pre = c.requires in
    let get-shape = c.get_shape-s in
    let is-child = c.is_child in
    let if1 = c.if-not-is_child in
    let get-shape2 = c.get_shape-p in
    let names-no-edge = c.names_no_edge in
    let if2 = c.if-names_no_edge in
    let get-edge = c.get_edge-edge in
    let is-joined = c.is_joined in
    let if3 = c.if-not-is_joined in
    let leads = c.leads in
    let child = sym is-child.ensures ∙ if1.false in
    joined _ _ get-shape.ensures child get-shape2.ensures pre.marked
    (sym names-no-edge.ensures ∙ if2.false) get-edge.ensures
    (sym is-joined.ensures ∙ if3.false) leads.ensures
