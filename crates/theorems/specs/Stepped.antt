-- One step from a shape: a live edge gives the child that is there, and otherwise a child is made.
-- Assumes nothing.
use Rattle.std.specs.Prelude.{Bool, true, false, List, ◌≢◌, ◌≡◌, refl, ℕ, zero, suc, ◌+◌, eqb}
use Rattle.std.proofs.Common.{inl, inr, sym, ◌∙◌, ap, arith, eqb-true, eq-eqb, ne_eqb}
use Rattle.std.proofs.Math.Option.{some}
use Rattle.std.proofs.lemmas.Bool.{eqb-false, not-true}
use Rattle.std.specs.Prelude.{if◌then◌else◌}
use Rattle.store.specs.Model.{Model, no_edge, free_edge, shape_at, edge_at}
use Rattle.store.specs.PlaceLaws.{at-inside, FirstOrNone, first_or_none, first_found, first-none}
use Rattle.store.specs.ListLaws.{and_both, both-and, Decided, either, not-both}
use Rattle.store.specs.declared.Shape.{Shape}
use Rattle.store.specs.declared.Entry.{Entry}
use Rattle.store.specs.declared.Edge.{Edge}
use Rattle.rules.specs.Shapes.{has, shared, is_child, entries}
use Rattle.rules.specs.Refusals.{ok}
use Rattle.rules.proofs.Settled.{same_given}
use Rattle.rules.specs.Steps.{Step, insert, configure, prototype, edge_of, edge_kind, may_step}
use Rattle.rules.specs.Steps.{alike, dead, Placed, pruned, make, along, step}
use Rattle.rules.specs.Sound.{step_of}
use Rattle.rules.specs.Sweep.{deadened}
use Rattle.rules.specs.Trails.{made_by}
use Rattle.rules.specs.InUse.{shared_used}
use Rattle.theorems.specs.Facts.{Used, Alike, Sound, used_place}
use Rattle.theorems.specs.TestsSay.{alike_is, is_alike}
use Rattle.theorems.specs.FactsSound.{its-edge}
use Rattle.theorems.specs.Entries.{led_to}
use Rattle.theorems.specs.Frame.{Keeps, keeps_self}
use Rattle.theorems.specs.Prunes.{pruned_keeps, pruned-edge}
use Rattle.theorems.specs.Child.{Legal, Ready, Grown}
use Rattle.theorems.specs.Makes.{edge_not_free, legal_again, grown-again, make_keeps}

-- What a step leaves: a child of n by that step. Its contents follow from that (`made`).
pub record Took (m : Model) (n : ℕ) (t : Step) (y : Placed) : Type 0 where
  pub keeps : Keeps m y.0 (Used m)
  pub is_shared : shared (shape_at y.0 y.1) ≡ true
  pub previous : (shape_at y.0 y.1).previous ≡ n
  pub one_more : (shape_at y.0 y.1).transitions ≡ (shape_at m n).transitions + 1
  pub its_step : made_by y.0 y.1 ≡ t

grown_took : (m : Model) (n : ℕ) (t : Step) (y : Placed) → Grown m n t y → Took m n t y
grown_took m n t y g =
    record {
      keeps = g.keeps;
      is_shared = ap shared g.stands;
      previous = ap (λ (s : Shape). s.previous) g.stands;
      one_more = ap (λ (s : Shape). s.transitions) g.stands;
      its_step = g.its_step;
    }

-- ## The child that is there

words_of : (e x : Edge) → Alike e x
    → (e.kind ≡ x.kind) × (e.label ≡ x.label) × (e.attributes ≡ x.attributes)
words_of e x l =
    (ap (λ (y : Edge). y.kind) l, ap (λ (y : Edge). y.label) l, ap (λ (y : Edge). y.attributes) l)

-- An edge for a step that may be taken, read with its child's step kind, is that step.
same_step : (n kind : ℕ) (t : Step) (x : Edge) (es : List Entry) → Alike (edge_of n t 0) x
    → edge_kind (step_of kind x) ≡ x.kind → may_step t es ≡ true → may_step (step_of kind x) es ≡ true
    → step_of kind x ≡ t
same_step n kind t x es l fits may its =
    let w = words_of (edge_of n t 0) x l in
    go t (eqb kind 0) (eqb kind 1) w.0 w.1 w.2 fits may its
  where
    read : Bool → Bool → Step
    read a b =
        if a then insert x.label x.attributes
        else if b then configure x.label x.attributes
        else prototype x.label

    go : (t : Step) (a b : Bool) → (edge_of n t 0).kind ≡ x.kind → (edge_of n t 0).label ≡ x.label
        → (edge_of n t 0).attributes ≡ x.attributes → edge_kind (read a b) ≡ x.kind
        → may_step t es ≡ true → may_step (read a b) es ≡ true → read a b ≡ t
    go (insert k v) true b kind label attributes fits may its = cc
    go (insert k v) false true kind label attributes fits may its =
        not-both (rw (← label) at (and_both (has x.label es) its).0) (not-true (has k es) may)
    go (insert k v) false false kind label attributes fits may its = absurd (omega arith)
    go (configure k v) true b kind label attributes fits may its =
        not-both (and_both (has k es) may).0 (not-true (has k es) (rw (← label) at its))
    go (configure k v) false true kind label attributes fits may its = cc
    go (configure k v) false false kind label attributes fits may its = absurd (omega arith)
    go (prototype p) true b kind label attributes fits may its = absurd (omega arith)
    go (prototype p) false true kind label attributes fits may its = absurd (omega arith)
    go (prototype p) false false kind label attributes fits may its = cc

module _ (m : Model) (sound : Sound m) (n : ℕ) (u : Used m n) (t : Step) where
  -- An edge for the step is in use.
  pub edge_in_use : (e : ℕ) → Alike (edge_of n t 0) (edge_at m e) → free_edge (edge_at m e) ≡ false
  edge_in_use e l = go (either (free_edge (edge_at m e)))
    where
      go : Decided (free_edge (edge_at m e)) → free_edge (edge_at m e) ≡ false
      go (inl f) = absurd (edge_not_free m n t u (l ∙ ap deadened (sound.free_edges e f)))
      go (inr v) = v

module _ (m : Model) (sound : Sound m) (n : ℕ) (t : Step) (legal : Legal m n t) where
  is_used_lem : Used m n
  is_used_lem = shared_used (shape_at m n) legal.is_shared

  edge_used : (e : ℕ) → Alike (edge_of n t 0) (edge_at m e) → free_edge (edge_at m e) ≡ false
  edge_used = edge_in_use m sound n is_used_lem t

  live_took : (e : ℕ) → Alike (edge_of n t 0) (edge_at m e) → (edge_at m e).child ≢ 0
      → Took m n t (m, (edge_at m e).child)
  live_took e l live =
      let x = edge_at m e in
      let c = shape_at m x.child in
      let to = (sound.edges e (edge_used e l)).child live in
      let used = shared_used c to.is_shared in
      let parent : x.parent ≡ n = sym (ap (λ (y : Edge). y.parent) l) in
      let previous = to.previous ∙ parent in
      let some = ne_eqb c.previous 0 (λ z. used_place m n is_used_lem (sym previous ∙ z)) in
      let child : is_child c ≡ true = both-and to.is_shared (rw some) in
      let k = (sound.shapes x.child used).child child in
      let its_edge = k.only_edge e refl in
      let stepped = rw (← its_edge) at k.stepped in
      let p = shape_at m c.previous in
      let its = step_of c.step x in
      let led = led_to its (entries m p) p.prototype (entries m c) c.prototype stepped in
      let may_its = rw previous at led.may in
      let same = same_step n c.step t x (entries m (shape_at m n)) l to.kind_fits legal.may may_its in
      record {
        keeps = keeps_self sound;
        is_shared = to.is_shared;
        previous = previous;
        one_more = rw previous at k.one_more;
        its_step = rw (its-edge m sound x.child used child, ← its_edge) same;
      }

  -- ## The child that is made

  make_took : ((e : ℕ) → Alike (edge_of n t 0) (edge_at m e) → ⊥)
      → (y : Placed) → make m n t ≡ ok y → Took m n t y
  make_took no_edge y e =
      grown_took m n t y (make_keeps m sound n t record { legal = legal; no_edge = no_edge } y e)

  -- A dead edge for the step is pruned, and no other is like it.
  dead_took : (e : ℕ) → Alike (edge_of n t 0) (edge_at m e) → (edge_at m e).child ≡ 0
      → (y : Placed) → make (pruned m n (edge_kind t)) n t ≡ ok y → Took m n t y
  dead_took e l gone y h =
      let j = pruned m n (edge_kind t) in
      let keeps = pruned_keeps m sound n (edge_kind t) legal.is_shared in
      let ready : Ready j n t = record { legal = legal_again m j keeps n t legal; no_edge = unlike } in
      grown_took m n t y (grown-again m j keeps n t is_used_lem y (make_keeps j keeps.is_sound n t ready y h))
    where
      its-dead : dead n (edge_kind t) (edge_at m e) ≡ true
      its-dead =
          let x = edge_at m e in
          let parent : x.parent ≡ n = sym (ap (λ (y : Edge). y.parent) l) in
          let kind : x.kind ≡ edge_kind t
          = sym (ap (λ (y : Edge). y.kind) l) in
          both-and (both-and (eq-eqb _ _ parent) (eq-eqb _ _ kind)) (eq-eqb _ _ gone)

      unlike : (f : ℕ) → Alike (edge_of n t 0) (edge_at (pruned m n (edge_kind t)) f) → ⊥
      unlike f k = go (either (dead n (edge_kind t) (edge_at m f)))
        where
          go : Decided (dead n (edge_kind t) (edge_at m f)) → ⊥
          go (inl d) = edge_not_free m n t is_used_lem (rw (pruned-edge m n (edge_kind t) f, d) at k)
          go (inr d) =
              let other : Alike (edge_of n t 0) (edge_at m f) = rw (pruned-edge m n (edge_kind t) f, d) at k in
              let same = sound.not_alike e f (edge_used e l) (sym l ∙ other) in
              not-both (rw same at its-dead) d

  pub step_took : (y : Placed) → step m n t ≡ ok y → Took m n t y
  unfolding step edge_at
  step_took y h = go (first_or_none (alike (edge_of n t 0)) no_edge m.edges)
    where
      found : (e : ℕ) → Alike (edge_of n t 0) (edge_at m e) → along (some (edge_at m e)) m n t ≡ ok y
          → Took m n t y
      found e l q = cases (either (eqb (edge_at m e).child 0))
        where
          cases : Decided (eqb (edge_at m e).child 0) → Took m n t y
          cases (inl d) = dead_took e l (eqb-true (edge_at m e).child 0 d) y (rw d at q)
          cases (inr d) =
              rw (← same_given (rw d at q)) (live_took e l (eqb-false (edge_at m e).child 0 d))

      go : FirstOrNone (alike (edge_of n t 0)) no_edge m.edges → Took m n t y
      go (inl (k, f)) =
          let its = first_found (alike (edge_of n t 0)) no_edge m.edges k f in
          found (suc k) (alike_is (edge_of n t 0) (edge_at m (suc k)) f.passes) (rw its at h)
      go (inr fails) =
          let its = first-none (alike (edge_of n t 0)) no_edge m.edges fails in
          make_took unlike y (rw its at h)
        where
          unlike : (e : ℕ) → Alike (edge_of n t 0) (edge_at m e) → ⊥
          unlike zero l = edge_not_free m n t is_used_lem l
          unlike (suc k) l =
              let inside = at-inside free_edge m.edges (suc k) no_edge refl (edge_used (suc k) l) in
              not-both (is_alike (edge_of n t 0) (edge_at m (suc k)) l) (fails k inside.1)
