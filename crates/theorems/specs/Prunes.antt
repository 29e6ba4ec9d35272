-- Dead edges pruned and counters raised: the model stays sound and every shape is kept.
-- Assumes nothing.
use Rattle.std.specs.Prelude.{Bool, true, false, ◌⊎◌, ◌≡◌, refl, eqb}
use Rattle.std.proofs.Math.Logic.{inl}
use Rattle.std.proofs.Common.{inr, sym, ◌∙◌, arith}
use Prim.Native.Nat.{ℕ, ◌+◌, ◌≤◌}
use Rattle.std.proofs.lemmas.Bool.{eqb-false}
use Rattle.std.specs.Prelude.{if◌then◌else◌}
use Rattle.std.proofs.lemmas.List.{length-map}
use Rattle.store.specs.Model.{no_edge, put_shape, Model, shape_at, table_at, edge_at}
use Rattle.store.specs.ListLaws.{Decided, not-both, either}
use Rattle.store.specs.declared.Counters.{Counters}
use Rattle.rules.specs.Shapes.{shared, with_counters}
use Rattle.rules.specs.Steps.{dead, prune, counter, set_counter, put_counter, with_edges, pruned, counted}
use Rattle.rules.proofs.FirstLaws.{prune-at, prune_live}
use Rattle.rules.specs.InUse.{shared_used}
use Rattle.theorems.specs.Facts.{Used, InLimits, Sound, shared-not-unique, used_place}
use Rattle.theorems.specs.Frame.{EdgeCase, vacant, Change, Keeps, change_keeps, keeps_again, kept_used}
use Rattle.theorems.specs.Frame.{longer_same, previous_used, same_edge, old-shape, same_user}
use Rattle.theorems.specs.Holds.{core-put}

-- ## Dead edges

module _ (m : Model) (sound : Sound m) (n kind : ℕ) where
  abbrev less : Model
  less = with_edges m (prune n kind m.edges)

  an_edge : (e : ℕ) → EdgeCase m less (Used m) e
  unfolding edge_at
  an_edge e = go (either (dead n kind (edge_at m e)))
    where
      go : Decided (dead n kind (edge_at m e)) → EdgeCase m less (Used m) e
      go (inl d) = vacant (rw (prune-at n kind m.edges e, d))
      go (inr d) =
          same_edge m less sound (λ k h. shared_used (shape_at m k) h) e (rw (prune-at n kind m.edges e, d))

  prune-change : Change m less (Used m)
  unfolding shape_at table_at edge_at
  prune-change =
      record {
        same_limits = simp length-map;
        staying = λ k u. record {
          was_used = u;
          previous = previous_used m less sound k u;
          same_core = refl;
          limits = (sound.shapes k u).limits;
          longer = longer_same (table_at m (shape_at m k).table);
          unique_table = λ r. refl;
          edges = λ e h. prune_live n kind m.edges e (λ z. used_place m k u (sym h ∙ z));
        };
        shapes = λ k. old-shape m less sound k (λ f. refl);
        tables = λ t es q. inl q;
        users = λ t u. same_user m less sound (λ k v. refl) t u;
        edges = an_edge;
      }

  prune_keeps : Keeps m less (Used m)
  prune_keeps = change_keeps sound prune-change

-- ## Counters

-- The counter of one kind is v, the other is as it was.
counter_low : (kind v : ℕ) (c : Counters) → v ≤ 255 → c.property ≤ 255 → c.prototype ≤ 255
    → ((set_counter kind v c).property ≤ 255) × ((set_counter kind v c).prototype ≤ 255)
counter_low kind v c l p q = go (eqb kind 0)
  where
    set : Bool → Counters
    set b =
        if b then record { property = v; prototype = c.prototype }
        else record { property = c.property; prototype = v }

    go : (b : Bool) → ((set b).property ≤ 255) × ((set b).prototype ≤ 255)
    go true = (l, q)
    go false = (p, l)

module _ (m : Model) (sound : Sound m) (n kind : ℕ) (is_shared : shared (shape_at m n) ≡ true) where
  counter_keeps : (v : ℕ) → v ≤ 255 → Keeps m (put_counter m n kind v) (Used m)
  counter_keeps v l =
      let s = shape_at m n in
      let u = shared_used s is_shared in
      let old = (sound.shapes n u).limits in
      let low = counter_low kind v s.counters l old.property old.prototype in
      core-put m sound n u (with_counters s (set_counter kind v s.counters)) refl
      record {
        unheld = old.unheld;
        holds = old.holds;
        property = low.0;
        prototype = low.1;
        unique = λ r. not-both r (shared-not-unique s is_shared);
      }

  pub counter_at_most : counter kind (shape_at m n).counters ≤ 255
  counter_at_most = go (eqb kind 0)
    where
      old : InLimits (shape_at m n)
      old = (sound.shapes n (shared_used (shape_at m n) is_shared)).limits

      go : (b : Bool)
          → (if b then (shape_at m n).counters.property else (shape_at m n).counters.prototype) ≤ 255
      go true = old.property
      go false = old.prototype

-- ## Both

module _ (m : Model) (sound : Sound m) (n kind : ℕ) (is_shared : shared (shape_at m n) ≡ true) where
  pub pruned_keeps : Keeps m (pruned m n kind) (Used m)
  unfolding pruned shape_at
  pruned_keeps =
      let first = prune_keeps m sound n kind in
      let less = with_edges m (prune n kind m.edges) in
      keeps_again first (λ k u kept. kept_used u kept)
      (counter_keeps less first.is_sound n kind is_shared 0 (omega arith))

  pub counted_keeps : Keeps m (counted m n kind) (Used m)
  unfolding counted
  counted_keeps = go (either (eqb old 255))
    where
      old : ℕ
      old = counter kind (shape_at m n).counters

      go : Decided (eqb old 255) → Keeps m (counted m n kind) (Used m)
      go (inl e) = rw e pruned_keeps
      go (inr e) =
          let low = counter_at_most m sound n kind is_shared in
          let other = eqb-false old 255 e in
          rw e (counter_keeps m sound n kind is_shared (old + 1) (omega arith))

-- ## The edges that are left

-- Each edge of j is as it was, or gone.
abbrev pub FewerEdges : (m j : Model) → Type 0
FewerEdges m j = (e : ℕ) → (edge_at j e ≡ edge_at m e) ⊎ (edge_at j e ≡ no_edge)

module _ (m : Model) (n kind : ℕ) where
  pub pruned-edge : (e : ℕ)
      → edge_at (pruned m n kind) e ≡ (if dead n kind (edge_at m e) then no_edge else edge_at m e)
  unfolding pruned put_shape edge_at
  pruned-edge e = prune-at n kind m.edges e

  pruned_fewer : FewerEdges m (pruned m n kind)
  pruned_fewer e = go (either (dead n kind (edge_at m e)))
    where
      go : Decided (dead n kind (edge_at m e))
          → (edge_at (pruned m n kind) e ≡ edge_at m e) ⊎ (edge_at (pruned m n kind) e ≡ no_edge)
      go (inl d) = inr (rw (pruned-edge e, d))
      go (inr d) = inl (rw (pruned-edge e, d))

  pub counted_fewer : FewerEdges m (counted m n kind)
  unfolding counted put_shape edge_at
  counted_fewer e = go (either (eqb (counter kind (shape_at m n).counters) 255))
    where
      go : Decided (eqb (counter kind (shape_at m n).counters) 255)
          → (edge_at (counted m n kind) e ≡ edge_at m e) ⊎ (edge_at (counted m n kind) e ≡ no_edge)
      go (inl q) = rw q (pruned_fewer e)
      go (inr q) = rw q (inl refl)
