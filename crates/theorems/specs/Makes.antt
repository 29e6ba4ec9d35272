-- A new child by a step, the counter seen to first: the model stays sound and every shape is kept.
-- Assumes nothing.
use Rattle.std.specs.Prelude.{true, ◌⊎◌, ◌≡◌, ℕ}
use Rattle.std.proofs.Common.{inl, inr, ◌∙◌, ap, arith}
use Rattle.store.specs.Model.{Model, no_edge, free_shape, shape_at, edge_at}
use Rattle.store.specs.ListLaws.{Decided, either, not-both}
use Rattle.store.specs.declared.Shape.{Shape}
use Rattle.store.specs.declared.Edge.{Edge}
use Rattle.rules.specs.Refusals.{ok}
use Rattle.rules.specs.Sweep.{deadened}
use Rattle.rules.specs.Steps.{Step, edge_of, edge_kind, step_entries, Placed, child_shape, counted, make}
use Rattle.rules.specs.InUse.{shared_used}
use Rattle.theorems.specs.Facts.{Used, Alike, Sound, used_place}
use Rattle.theorems.specs.Frame.{Keeps, keeps_again, kept_used, kept-shared}
use Rattle.theorems.specs.Prunes.{counted_keeps, FewerEdges, counted_fewer}
use Rattle.theorems.specs.Child.{Legal, Ready, Grown}
use Rattle.theorems.specs.Laying.{grow_keeps}

-- The edge of a step from a shape in use is no free one.
pub edge_not_free : (m : Model) (n : ℕ) (t : Step) → Used m n → Alike (edge_of n t 0) no_edge → ⊥
edge_not_free m n t u l =
    used_place m n u (ap (λ (x : Edge). x.parent) l)

module _ (m j : Model) (keeps : Keeps m j (Used m)) (n : ℕ) (t : Step) where
  pub legal_again : Legal m n t → Legal j n t
  legal_again l =
      let k = keeps.keeps n (shared_used (shape_at m n) l.is_shared) in
      let below = l.below in
      let count = ap (λ (s : Shape). s.transitions) k.same_core in
      record {
        is_shared = kept-shared l.is_shared k;
        below = omega arith;
        may = rw k.same_entries l.may;
        label = rw k.same_entries l.label;
      }

  -- What a step needs is there still, if no edge is new.
  pub ready_again : FewerEdges m j → Ready m n t → Ready j n t
  ready_again fewer r = record { legal = legal_again r.legal; no_edge = λ e l. go e l (fewer e) }
    where
      go : (e : ℕ) → Alike (edge_of n t 0) (edge_at j e)
          → (edge_at j e ≡ edge_at m e) ⊎ (edge_at j e ≡ no_edge) → ⊥
      go e l (inl q) = r.no_edge e (rw q at l)
      go e l (inr q) =
          edge_not_free m n t (shared_used (shape_at m n) r.legal.is_shared) (l ∙ ap deadened q)

  -- A child made after that is a child made of m.
  pub grown-again : Used m n → (y : Placed) → Grown j n t y → Grown m n t y
  grown-again u y g =
      let k = keeps.keeps n u in
      record {
        table = g.table;
        stands = g.stands ∙ ap (λ (s : Shape). child_shape n s t g.table) k.same_core;
        its_entries = g.its_entries ∙ ap (step_entries t) k.same_entries;
        its_step = g.its_step;
        was_free = go (either (free_shape (shape_at m y.1)));
        keeps = keeps_again keeps (λ x v kept. kept_used v kept) g.keeps;
      }
    where
      go : Decided (free_shape (shape_at m y.1)) → free_shape (shape_at m y.1) ≡ true
      go (inl f) = f
      go (inr v) = not-both g.was_free (kept_used v (keeps.keeps y.1 v))

pub make_keeps : (m : Model) → Sound m → (n : ℕ) (t : Step) → Ready m n t → (y : Placed) → make m n t ≡ ok y
    → Grown m n t y
unfolding make
make_keeps m sound n t r y e =
    let j = counted m n (edge_kind t) in
    let keeps = counted_keeps m sound n (edge_kind t) r.legal.is_shared in
    let ready = ready_again m j keeps n t (counted_fewer m n (edge_kind t)) r in
    grown-again m j keeps n t (shared_used (shape_at m n) r.legal.is_shared) y
    (grow_keeps j keeps.is_sound n t ready y e)
