-- The edges that there are for steps, as code looks them up.
-- Assumes nothing.
use Rattle.std.specs.Prelude.{Bool, true, false, ◌||◌, List, [], ◌∷◌, ◌≢◌, ◌≡◌, refl, ℕ, suc, ◌+◌, ◌≤◌, eqb, length, drop}
use Rattle.std.proofs.Common.{inl, inr, sym, ap, ◌∙◌, add-zero, zero-add, add-one, arith, eqb-true, ne_eqb}
use Rattle.std.proofs.Math.Option.{Option, none, some}
use Rattle.std.specs.Prelude.{if◌then◌else◌}
use Rattle.store.specs.Lists.{first}
use Rattle.store.specs.Model.{Model, shape_at}
use Rattle.store.specs.ListLaws.{Decided, either, length-keep}
use Rattle.store.specs.declared.Shape.{Shape}
use Rattle.store.specs.declared.Edge.{Edge}
use Rattle.rules.specs.Steps.{Step, edge_of, edge_kind, alike, dead, counter}
use Rattle.forward_transition.specs.Transitions.{transition_of}
use Rattle.forward_transition.specs.declared.Transition.{Transition}
use Rattle.forward_transition.specs.declared.Transition.TheVariants.{Live, Dead, Absent}
use Rattle.plan.specs.declared.Way.{Way}
use Rattle.plan.specs.Plan.{edge_for, child_of, is_edge, follow, wraps, dead_edges, gives, first_gives}

-- ## The edge for a step was looked up

abbrev pub live_child : Transition → ℕ
live_child (Live c) = c
live_child Dead = 0
live_child Absent = 0

abbrev pub is_made : Transition → Bool
is_made (Live c) = true
is_made Dead = true
is_made Absent = false

module _ (m : Model) (n : ℕ) (t : Step) {wanted : Edge} {x : Transition} (its : wanted ≡ edge_of n t 0)
    (read : x ≡ transition_of (first (alike wanted) m.edges)) where
  its-answer : x ≡ transition_of (edge_for m n t)
  its-answer = read ∙ ap (λ (e : Edge). transition_of (first (alike e) m.edges)) its

  pub live_child_lem : live_child x ≡ child_of (edge_for m n t)
  live_child_lem = rw its-answer (go (edge_for m n t))
    where
      go : (o : Option Edge) → live_child (transition_of o) ≡ child_of o
      go none = refl
      go (some e) = cases (either (eqb e.child 0))
        where
          cases : Decided (eqb e.child 0) → live_child (transition_of (some e)) ≡ e.child
          cases (inl q) = rw q (sym (eqb-true e.child 0 q))
          cases (inr q) = rw q

  pub is_made_lem : is_made x ≡ is_edge (edge_for m n t)
  is_made_lem = rw its-answer (go (edge_for m n t))
    where
      go : (o : Option Edge) → is_made (transition_of o) ≡ is_edge o
      go none = refl
      go (some e) = cases (eqb e.child 0)
        where
          cases : (b : Bool) → is_made (if b then Dead else Live e.child) ≡ true
          cases true = refl
          cases false = refl

-- What its prunes give back.
module _ (m : Model) (n : ℕ) (t : Step) {wanted : Edge} (its : wanted ≡ edge_of n t 0)
    {s : Shape} (read : s ≡ shape_at m n) {count : ℕ} (counted : count ≡ counter wanted.kind s.counters)
    {b : Bool} (edge : b ≡ is_edge (edge_for m n t)) where
  asked : (b || eqb count 255) ≡ (is_edge (edge_for m n t) || wraps m n (edge_kind t))
  asked = rw (edge, counted, read, its)

  pub gives_back : {d : ℕ} → (b || eqb count 255) ≡ true → d ≡ dead_edges m n wanted.kind → d ≡ gives m n t
  unfolding gives
  gives_back prunes back = rw (← asked, prunes) (rw its at back)

  pub gives_none : (b || eqb count 255) ≡ false → 0 ≡ gives m n t
  unfolding gives
  gives_none not = rw (← asked, not)

pub few_given : (m : Model) (n : ℕ) (ts : List Step) → first_gives m n ts ≤ length m.edges
unfolding gives
few_given m n [] = omega arith
few_given m n (t ∷ ts) = go (is_edge (edge_for m n t) || wraps m n (edge_kind t))
  where
    go : (b : Bool) → (if b then dead_edges m n (edge_kind t) else 0) ≤ length m.edges
    go true = length-keep (dead n (edge_kind t)) m.edges
    go false = omega arith

-- ## Along live edges

module _ (ts : List Step) (m : Model) (from : ℕ) where
  -- The way, with so many steps before it.
  abbrev ahead : ℕ → Way → Way
  ahead k w = record { found = k + w.found; place = w.place }

  -- The first steps have live edges, and lead to the place.
  pub record Following (found place : ℕ) : Type 0 where
    pub rest : ahead found (follow (drop found ts) m place) ≡ follow ts m from

  pub follow-start : Following 0 from
  follow-start = record { rest = rw zero-add refl }

  module _ {found place : ℕ} (f : Following found place) where
    abbrev Ends : Type 0
    Ends = record { found = found; place = place } ≡ follow ts m from

    pub follow_end : drop found ts ≡ [] → Ends
    follow_end all = rw (all, add-zero) at f.rest

    module _ {t : Step} {child : ℕ} (next : drop found ts ≡ t ∷ drop (suc found) ts)
        (its : child ≡ child_of (edge_for m place t)) where
      pub follow_stop : child ≡ 0 → Ends
      follow_stop new = rw (next, ← its, new, add-zero) at f.rest

      pub follow_on : child ≢ 0 → Following (found + 1) child
      follow_on live =
          let w = follow (drop (suc found) ts) m child in
          let one : suc found + w.found ≡ found + suc w.found = omega arith in
          let rest = rw (next, ← its, ne_eqb child 0 live) at f.rest in
          rw add-one
          (record { rest = (λ i. record { found = one i; place = w.place }) ∙ rest })
