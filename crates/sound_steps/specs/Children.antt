-- A child against its previous and its one edge, and every child.
-- Assumes nothing.
use Rattle.std.specs.Prelude.{◌≡◌, Bool, true, false, ◌&&◌, ◌||◌, not, [], ◌∷◌, ◌≢◌, ℕ, ◌+◌, eqb, length}
use Rattle.std.proofs.Common.{sym, ap, ◌∙◌, arith}
use Rattle.std.proofs.Math.Bool.{and-true}
use Rattle.std.proofs.lemmas.Bool.{eqb-false, not-true}
use Rattle.store.specs.Lists.{numbered, every, only_one}
use Rattle.store.specs.ListLaws.{and_both}
use Rattle.store.specs.Scans.{places_scan, shape-next}
use Rattle.store.specs.Model.{Model, free_shape, no_shape, shape_at, edge_at}
use Rattle.store.specs.Image.{Place}
use Rattle.store.specs.declared.Shape.{Shape}
use Rattle.store.specs.declared.Edge.{Edge}
use Rattle.rules.specs.Shapes.{shared, is_child, entries}
use Rattle.rules.specs.Sound.{in_range, edges_to, step_of, leads, children_linked, children_stepped}
use Rattle.rules.specs.InUse.{shared_used, shape-ranges, Tabled, tabled}
use Rattle.sound_shapes.specs.Tests.{TablesKnown}
use Rattle.sound_shapes.specs.Sentences.{every-joins}
use Rattle.sound_steps.specs.Links.{Marked, no_place, the_one}

-- ## The two sentences, of one shape

-- A test of each child, as a test of each shape.
abbrev child_test : Shape → Bool → Bool
child_test s b = free_shape s || (not (is_child s) || b)

abbrev is_linked : Model → ℕ × Shape → Bool
is_linked m (n, s) =
    let p = shape_at m s.previous in
    child_test s
    (shared p
    && eqb s.transitions (p.transitions + 1)
    && only_one (λ e. eqb e.parent s.previous) (edges_to m n))

abbrev is_stepped : Model → ℕ × Shape → Bool
is_stepped m (n, s) =
    let p = shape_at m s.previous in
    child_test s
    (every (λ e. leads (step_of s.step e) (entries m p) p.prototype (entries m s) s.prototype)
    (edges_to m n))

abbrev pub follows : Model → ℕ × Shape → Bool
follows m x = is_linked m x && is_stepped m x

pub each-follows : (m : Model)
    → every (follows m) (numbered 1 m.shapes) ≡ (children_linked m && children_stepped m)
unfolding children_linked children_stepped
each-follows m = sym (every-joins (is_linked m) (is_stepped m) (numbered 1 m.shapes))

pub follow-tested : (m : Model) (k : ℕ) {b : Bool} → b ≡ follows m (k + 1, shape_at m (k + 1))
    → not b ≡ (places_scan no_shape (follows m) m.shapes).stops k
follow-tested m k e = ap not (e ∙ ap (λ (s : Shape). follows m (k + 1, s)) (shape-next m k))

-- ## One child

pub shared_tabled : {m : Model} → TablesKnown m → (n : ℕ) {s : Shape} → s ≡ shape_at m n → shared s ≡ true
    → Tabled m s
shared_tabled {m} known n {s} its e = tabled m known.in_use known.counts n its (shared_used s e)

-- The edge comes from the previous, which has one transition less.
abbrev pub joins : (previous child : Shape) → Edge → Bool
joins p s e = shared p && eqb s.transitions (p.transitions + 1) && eqb e.parent s.previous

module _ (m : Model) (n : ℕ) {s : Shape} (its : s ≡ shape_at m n) where
  module _ (c : is_child s ≡ true) where
    pub previous_place : in_range m ≡ true → Place (length m.shapes) s.previous
    previous_place e =
        let (is_shared, later) = and_both (shared s) c in
        let used : free_shape (shape_at m n) ≡ false = rw (← its) (shared_used s is_shared) in
        let some : s.previous ≢ 0 = eqb-false s.previous 0 (not-true (eqb s.previous 0) later) in
        record { low = omega (arith, some); high = rw its (shape-ranges m e n used).previous }

    module _ {p : Shape} (previous : p ≡ shape_at m s.previous) where
      as_child : follows m (n, shape_at m n)
          ≡ ((shared p
          && eqb s.transitions (p.transitions + 1)
          && only_one (λ e. eqb e.parent s.previous) (edges_to m n))
          && every (λ e. leads (step_of s.step e) (entries m p) p.prototype (entries m s) s.prototype)
          (edges_to m n))
      as_child = rw (← its, ← previous, shared_used s (and_both (shared s) c).0, c)

      module _ {mark : ℕ} (marked : Marked m.edges (edges_to m n) mark) where
        module _ (named : no_place mark ≡ false) {edge : Edge} (read : edge ≡ edge_at m mark) where
          alone : edges_to m n ≡ edge ∷ []
          unfolding edge_at
          alone = rw read (the_one marked named).1

          pub not-joined : joins p s edge ≡ false → false ≡ follows m (n, shape_at m n)
          not-joined fails = rw (as_child, alone, fails)

          pub joined : joins p s edge ≡ true → {r : Bool}
              → r ≡ leads (step_of s.step edge) (entries m p) p.prototype (entries m s) s.prototype
              → r ≡ follows m (n, shape_at m n)
          joined passes step = rw (as_child, alone, passes, and-true) step
