-- What the edges say of a step, and a step after its parent's counter and dead edges were seen to.
-- Assumes nothing.
use Rattle.std.specs.Prelude.{Bool, true, false, List, ◌≡◌, ℕ, ◌≤◌, eqb, length, Ok}
use Rattle.std.proofs.Math.Option.{Option, none, some}
use Rattle.std.proofs.Math.Path.{refl}
use Rattle.std.proofs.Common.{sym, ◌∙◌}
use Rattle.std.specs.Prelude.{if◌then◌else◌}
use Rattle.store.specs.Lists.{first}
use Rattle.store.specs.Model.{Model, shape_at}
use Rattle.store.specs.Layout.{parse}
use Rattle.store.specs.Image.{Formed, Place, Becomes, unchanged}
use Rattle.store.specs.declared.Edge.{Edge}
use Rattle.rules.specs.Refusals.{Got, ok}
use Rattle.rules.specs.Placing.{Places, places, then_places}
use Rattle.rules.specs.Steps.{Step, edge_kind, edge_of, alike, counter, Placed, pruned, counted}
use Rattle.rules.specs.Steps.{grow, make, along, step}
use Rattle.theorems.specs.Facts.{Used}
use Rattle.theorems.specs.Frame.{Keeps}
use Rattle.theorems.specs.Prunes.{counter_at_most, counted_keeps, pruned_keeps}
use Rattle.theorems.specs.Makes.{legal_again}
use Rattle.plan.specs.Plan.{edge_for}
use Rattle.forward_transition.specs.Transitions.{transition_of}
use Rattle.forward_transition.specs.declared.Transition.{Transition}
use Rattle.forward_transition.specs.declared.Transition.TheVariants.{Live, Dead, Absent}
use Rattle.shared_step.specs.Growing.{Ready, shape-place}

-- A change that keeps every shape leaves the step legal; g is what is left of the rule h.
ready_again : {a b : List ℕ} {j : Model} {n : ℕ} {t : Step} {g h : Got Placed} → Ready a n t h
    → Keeps (parse a) j (Used (parse a)) → Becomes a b j → g ≡ h → Ready b n t g
ready_again {a} {j = j} {n = n} {t = t} (f, (sound, (legal, passes))) keeps became same = (
  became.formed,
  (
    rw became.parsed keeps.is_sound,
    (rw became.parsed (legal_again (parse a) j keeps n t legal), rw same passes),
  ),
)

-- ## The counter, and then the child

module _ {a : List ℕ} {n : ℕ} {t : Step} (ready : Ready a n t (make (parse a) n t)) {e : Edge}
    (its : e ≡ edge_of n t 0) where
  pub count_ready : Formed a
      × (Place (length (parse a).shapes) n × (counter e.kind (shape_at (parse a) n).counters ≤ 255))
  count_ready =
      let (f, (sound, (legal, passes))) = ready in
      (f, (shape-place ready, counter_at_most (parse a) sound n e.kind legal.is_shared))

  module _ {b : List ℕ} (up : Becomes a b (counted (parse a) n e.kind)) where
    same_rule : grow (parse b) n t ≡ make (parse a) n t
    unfolding make
    same_rule = rw (up.parsed, its)

    pub grow_ready : Ready b n t (grow (parse b) n t)
    grow_ready =
        let (f, (sound, (legal, passes))) = ready in
        ready_again ready (counted_keeps (parse a) sound n e.kind legal.is_shared) up same_rule

    pub made : (c : List ℕ) (r : ℕ) → Places b c (grow (parse b) n t) (Ok r)
        → Places a c (make (parse a) n t) (Ok r)
    made c r = then_places c r same_rule ready.1.1.1 up

-- ## What the edges say

module _ (m : Model) (n : ℕ) (t : Step) where
  along_live : (o : Option Edge) {c : ℕ} → transition_of o ≡ Live c → along o m n t ≡ ok (m, c)
  along_live none e = absurd (cc)
  along_live (some x) {c} e = go (eqb x.child 0) e
    where
      go : (b : Bool) → (if b then Dead else Live x.child) ≡ Live c
          → (if b then make (pruned m n (edge_kind t)) n t else ok (m, x.child)) ≡ ok (m, c)
      go true e = absurd (cc)
      go false e = let z : x.child ≡ c = cc in rw z

  along-dead : (o : Option Edge) → transition_of o ≡ Dead
      → along o m n t ≡ make (pruned m n (edge_kind t)) n t
  along-dead none e = absurd (cc)
  along-dead (some x) e = go (eqb x.child 0) e
    where
      go : (b : Bool) → (if b then Dead else Live x.child) ≡ Dead
          → (if b then make (pruned m n (edge_kind t)) n t else ok (m, x.child))
          ≡ make (pruned m n (edge_kind t)) n t
      go true e = refl
      go false e = absurd (cc)

  along_absent : (o : Option Edge) → transition_of o ≡ Absent → along o m n t ≡ make m n t
  along_absent none e = refl
  along_absent (some x) e = go (eqb x.child 0) e
    where
      go : (b : Bool) → (if b then Dead else Live x.child) ≡ Absent
          → (if b then make (pruned m n (edge_kind t)) n t else ok (m, x.child)) ≡ make m n t
      go true e = absurd (cc)
      go false e = absurd (cc)

-- The edges were asked for the step's.
module _ {a : List ℕ} {n : ℕ} {t : Step} (ready : Ready a n t (step (parse a) n t)) {e : Edge}
    (its : e ≡ edge_of n t 0) {found : Transition}
    (seen : found ≡ transition_of (first (alike e) (parse a).edges)) where
  asked : {x : Transition} → found ≡ x → transition_of (edge_for (parse a) n t) ≡ x
  asked is = sym (rw its at seen) ∙ is

  pub live_taken : {c : ℕ} → found ≡ Live c → Places a a (step (parse a) n t) (Ok c)
  unfolding step
  live_taken is =
      places (along_live (parse a) n t (edge_for (parse a) n t) (asked is)) (unchanged ready.0) refl

  module _ (is : found ≡ Absent) where
    absent : step (parse a) n t ≡ make (parse a) n t
    unfolding step
    absent = along_absent (parse a) n t (edge_for (parse a) n t) (asked is)

    pub absent_ready : Ready a n t (make (parse a) n t)
    absent_ready = rw absent at ready

    pub absent_taken : (c : List ℕ) (r : ℕ) → Places a c (make (parse a) n t) (Ok r)
        → Places a c (step (parse a) n t) (Ok r)
    absent_taken c r made = rw absent made

  module _ (is : found ≡ Dead) {b : List ℕ} (less : Becomes a b (pruned (parse a) n e.kind)) where
    dead-rule : make (parse b) n t ≡ step (parse a) n t
    unfolding step
    dead-rule = rw (less.parsed, its) (sym (along-dead (parse a) n t (edge_for (parse a) n t) (asked is)))

    pub dead_ready : Ready b n t (make (parse b) n t)
    dead_ready =
        let (f, (sound, (legal, passes))) = ready in
        ready_again ready (pruned_keeps (parse a) sound n e.kind legal.is_shared) less dead-rule

    pub dead-taken : (c : List ℕ) (r : ℕ) → Places b c (make (parse b) n t) (Ok r)
        → Places a c (step (parse a) n t) (Ok r)
    dead-taken c r = then_places c r dead-rule ready.1.1.1 less
