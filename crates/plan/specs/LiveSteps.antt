-- The steps that have a live edge change nothing: where they end, the others are taken.
-- Assumes nothing.
use Rattle.std.specs.Prelude.{true, List, [], ◌∷◌, ◌≢◌, ◌≡◌, refl, ℕ, suc, eqb, drop}
use Rattle.std.proofs.Common.{inl, inr}
use Rattle.std.proofs.lemmas.Bool.{eqb-false}
use Rattle.store.specs.Model.{Model, no_edge, shape_at, edge_at}
use Rattle.store.specs.PlaceLaws.{FirstOrNone, first_or_none, first_found, first-none}
use Rattle.store.specs.ListLaws.{Decided, either}
use Rattle.rules.specs.Shapes.{shared}
use Rattle.rules.specs.Steps.{Step, edge_of, alike, steps}
use Rattle.rules.specs.InUse.{shared_used}
use Rattle.theorems.specs.Facts.{Used, Sound}
use Rattle.theorems.specs.TestsSay.{alike_is}
use Rattle.theorems.specs.Stepped.{edge_in_use}
use Rattle.plan.specs.Plan.{edge_for, child_of, follow}
use Rattle.plan.specs.PlanRight.{LegalSteps, live_step}

-- A live edge leads to a shared shape.
live_shared : (m : Model) → Sound m → (n : ℕ) → shared (shape_at m n) ≡ true → (t : Step)
    → child_of (edge_for m n t) ≢ 0 → shared (shape_at m (child_of (edge_for m n t))) ≡ true
unfolding edge_at
live_shared m sound n is_shared t live = go (first_or_none (alike (edge_of n t 0)) no_edge m.edges)
  where
    go : FirstOrNone (alike (edge_of n t 0)) no_edge m.edges
        → shared (shape_at m (child_of (edge_for m n t))) ≡ true
    go (inl (k, f)) =
        let its = first_found (alike (edge_of n t 0)) no_edge m.edges k f in
        let like = alike_is (edge_of n t 0) (edge_at m (suc k)) f.passes in
        let used = edge_in_use m sound n (shared_used (shape_at m n) is_shared) t (suc k) like in
        rw its ((sound.edges (suc k) used).child (rw its at live)).is_shared
    go (inr fails) = absurd (live (rw (first-none (alike (edge_of n t 0)) no_edge m.edges fails)))

followed_shared : (ts : List Step) (m : Model) → Sound m → (n : ℕ) → shared (shape_at m n) ≡ true
    → shared (shape_at m (follow ts m n).place) ≡ true
followed_shared [] m sound n is_shared = is_shared
followed_shared (t ∷ ts) m sound n is_shared = go (either (eqb c 0)) (followed_shared ts m sound c)
  where
    c : ℕ
    c = child_of (edge_for m n t)

    go : Decided (eqb c 0)
        → (shared (shape_at m c) ≡ true → shared (shape_at m (follow ts m c).place) ≡ true)
        → shared (shape_at m (follow (t ∷ ts) m n).place) ≡ true
    go (inl new) rest = rw new is_shared
    go (inr live) rest = rw live (rest (live_shared m sound n is_shared t (eqb-false c 0 live)))

pub followed_used : (ts : List Step) (m : Model) → Sound m → (n : ℕ) → shared (shape_at m n) ≡ true
    → Used m (follow ts m n).place
followed_used ts m sound n is_shared =
    shared_used (shape_at m (follow ts m n).place) (followed_shared ts m sound n is_shared)

pub steps-left : (ts : List Step) (m : Model) (n : ℕ)
    → let w = follow ts m n in steps ts m n ≡ steps (drop w.found ts) m w.place
unfolding steps
steps-left [] m n = refl
steps-left (t ∷ ts) m n = go (either (eqb c 0)) (steps-left ts m c)
  where
    c : ℕ
    c = child_of (edge_for m n t)

    go : Decided (eqb c 0)
        → steps ts m c ≡ steps (drop (follow ts m c).found ts) m (follow ts m c).place
        → let w = follow (t ∷ ts) m n in
        steps (t ∷ ts) m n ≡ steps (drop w.found (t ∷ ts)) m w.place
    go (inl new) rest = rw new
    go (inr live) rest = rw (live, live_step m n t live) rest

pub legal_left : (ts : List Step) (m : Model) (n : ℕ) → LegalSteps ts m n
    → let w = follow ts m n in LegalSteps (drop w.found ts) m w.place
legal_left [] m n legal = tt
legal_left (t ∷ ts) m n legal = go (either (eqb c 0)) (legal_left ts m c)
  where
    c : ℕ
    c = child_of (edge_for m n t)

    go : Decided (eqb c 0)
        → (LegalSteps ts m c → LegalSteps (drop (follow ts m c).found ts) m (follow ts m c).place)
        → let w = follow (t ∷ ts) m n in LegalSteps (drop w.found (t ∷ ts)) m w.place
    go (inl new) rest = rw new legal
    go (inr live) rest = rw live (rest (legal.1 (m, c) (live_step m n t live)))
