-- The facts are enough for the test of soundness: `facts_sound`.
-- Assumes nothing.
use Rattle.std.specs.Prelude.{Bool, not, [], ◌∷◌, ◌⊎◌, ◌≡◌, ℕ, ◌≤◌, ltb, length}
use Rattle.std.proofs.Math.Bool.{true, false}
use Rattle.std.proofs.Common.{inl, inr, arith}
use Rattle.std.proofs.Math.Path.{refl}
use borrow.Author.Tests.{eqb-true, eqb-false, eq-eqb, le-leb, ltb-false}
use Rattle.std.proofs.Math.Dec.{eqb, leb}
use Rattle.std.specs.Prelude.{if◌then◌else◌}
use Rattle.store.specs.Model.{Table, free, used, Model, no_shape, no_edge, free_shape, free_table, free_edge}
use Rattle.store.specs.Model.{shape_at, table_at, edge_at}
use Rattle.store.specs.Layout.{room_for, fits}
use Rattle.store.specs.PlaceLaws.{at-inside}
use Rattle.store.specs.ListLaws.{Decided, both-and, then_or, then_not, passed-all, ◌and◌, every-make, either}
use Rattle.store.specs.declared.Shape.{Shape}
use Rattle.rules.specs.Shapes.{shared, unique, is_root, is_child, table_of}
use Rattle.rules.specs.Sound.{in_range, table_in_use, free_zero, tables_good, users, tables_used, counts_fit}
use Rattle.rules.specs.Sound.{roots_zero, edges_to, children_linked, children_stepped, edges_differ, edges_good}
use Rattle.rules.specs.Sound.{transitions_limited, holds_limited, uniques_zero, model_sentences, sound_model}
use Rattle.rules.specs.InUse.{shared_used}
use Rattle.theorems.specs.Facts.{Used, Sound, used_place}
use Rattle.theorems.specs.TestsSay.{shape-each, table-each, edge-each, user_counts, alone-counts}
use Rattle.theorems.specs.TestsSay.{edge_to, places_differ}

state_low : (s : Shape) → (shared s ≡ true) ⊎ (unique s ≡ true) → s.state ≤ 2
state_low s (inl e) = omega (arith, eqb-true s.state 1 e)
state_low s (inr e) = omega (arith, eqb-true s.state 2 e)

not-false : {b : Bool} → b ≡ false → not b ≡ true
not-false e = rw e

module _ (m : Model) (s : Sound m) where
  shared-inside : (n : ℕ) → shared (shape_at m n) ≡ true → n ≤ length m.shapes
  unfolding shape_at
  shared-inside n h = (at-inside free_shape m.shapes n no_shape refl (shared_used (shape_at m n) h)).1

  previous_inside : (n : ℕ) → Used m n → (shape_at m n).previous ≤ length m.shapes
  previous_inside n u = go (s.shapes n u).words.state (either (eqb (shape_at m n).previous 0))
    where
      go : (shared (shape_at m n) ≡ true) ⊎ (unique (shape_at m n) ≡ true)
          → Decided (eqb (shape_at m n).previous 0)
          → (shape_at m n).previous ≤ length m.shapes
      go (inr e) q = omega (arith, ((s.shapes n u).words.unique e).previous)
      go (inl e) (inl q) = omega (arith, eqb-true (shape_at m n).previous 0 q)
      go (inl e) (inr q) =
          let c = (s.shapes n u).child (both-and e (not-false q)) in
          shared-inside (shape_at m n).previous c.previous_shared

  table-inside : (n : ℕ) → Used m n → (shape_at m n).table ≤ length m.tables
  unfolding table_at
  table-inside n u =
      (at-inside free_table m.tables (shape_at m n).table free refl (s.shapes n u).table_used).1

  child-inside : (e : ℕ) → free_edge (edge_at m e) ≡ false → (edge_at m e).child ≤ length m.shapes
  child-inside e u = go (either (eqb (edge_at m e).child 0))
    where
      go : Decided (eqb (edge_at m e).child 0)
          → (edge_at m e).child ≤ length m.shapes
      go (inl q) = omega (arith, eqb-true (edge_at m e).child 0 q)
      go (inr q) =
          let c = (edge_at m e).child in
          shared-inside c ((s.edges e u).child (eqb-false c 0 q)).is_shared

  range_holds : in_range m ≡ true
  unfolding in_range
  range_holds =
      both-and
      (shape-each m _ (λ n u.
      both-and
      (both-and
      (both-and (le-leb _ _ (state_low (shape_at m n) (s.shapes n u).words.state))
      (le-leb _ _ (s.shapes n u).words.step))
      (le-leb _ _ (previous_inside n u)))
      (le-leb _ _ (table-inside n u))))
      (edge-each m _ (λ e u.
      both-and
      (both-and (le-leb _ _ (s.edges e u).kind)
      (le-leb _ _ (shared-inside (edge_at m e).parent (s.edges e u).parent_shared)))
      (le-leb _ _ (child-inside e u))))

  in_use_holds : table_in_use m ≡ true
  unfolding table_in_use
  in_use_holds = shape-each m _ (λ n u. not-false (s.shapes n u).table_used)

  free_holds : free_zero m ≡ true
  unfolding free_zero shape_at edge_at
  free_holds =
      both-and
      (every-make _ m.shapes no_shape (λ n low high.
      then_not (free_shape (shape_at m n)) (λ f. rw (s.free_shapes n f))))
      (every-make _ m.edges no_edge (λ e low high.
      then_not (free_edge (edge_at m e)) (λ f. rw (s.free_edges e f))))

  tables_hold : tables_good m ≡ true
  unfolding tables_good
  tables_hold = table-each m _ (λ t es q. (s.tables t es q).good)

  users_hold : tables_used m ≡ true
  unfolding tables_used
  users_hold =
      both-and
      (table-each m _ (λ t es q. le-leb 1 (users m t) (user_counts m t (s.users t (rw q)))))
      (shape-each m _ (λ n u.
      then_not (unique (shape_at m n)) (λ r.
      eq-eqb (users m (shape_at m n).table) 1 (alone-counts m n u ((s.shapes n u).unique_alone r)))))

  counts_hold : counts_fit m ≡ true
  unfolding counts_fit
  counts_hold = shape-each m _ (λ n u. go n u (unique (shape_at m n)) refl)
    where
      go : (n : ℕ) → Used m n → (b : Bool) → unique (shape_at m n) ≡ b
          → (if b then eqb (shape_at m n).properties (length (table_of m (shape_at m n)))
          else leb (shape_at m n).properties (length (table_of m (shape_at m n)))) ≡ true
      go n u true e = eq-eqb _ _ ((s.shapes n u).unique_whole e)
      go n u false e = le-leb _ _ (s.shapes n u).count_fits

  roots_hold : roots_zero m ≡ true
  unfolding roots_zero
  roots_hold = shape-each m _ (λ n u.
      then_not (is_root (shape_at m n)) (λ r.
      let z = (s.shapes n u).words.root r in
      rw (z.step, z.transitions, z.properties, z.prototype)))

  uniques_hold : uniques_zero m ≡ true
  unfolding uniques_zero
  uniques_hold = shape-each m _ (λ n u.
      then_not (unique (shape_at m n)) (λ r.
      let z = (s.shapes n u).words.unique r in
      rw (z.previous, z.step, z.transitions, (s.shapes n u).limits.unique r)))

  module _ (n : ℕ) (u : Used m n) (c : is_child (shape_at m n) ≡ true) where
    pub its-edge : edges_to m n ≡ edge_at m ((s.shapes n u).child c).edge ∷ []
    its-edge =
        let k = (s.shapes n u).child c in
        edge_to m n (used_place m n u) k.edge k.leads_here k.only_edge

  linked_holds : children_linked m ≡ true
  unfolding children_linked
  linked_holds = shape-each m _ (λ n u.
      then_not (is_child (shape_at m n)) (λ c.
      let k = (s.shapes n u).child c in
      both-and (both-and k.previous_shared (eq-eqb _ _ k.one_more))
      (rw (its-edge n u c) (eq-eqb _ _ k.from_previous))))

  stepped_holds : children_stepped m ≡ true
  unfolding children_stepped
  stepped_holds = shape-each m _ (λ n u.
      then_not (is_child (shape_at m n)) (λ c.
      rw (its-edge n u c) (both-and ((s.shapes n u).child c).stepped refl)))

  differ_holds : edges_differ m ≡ true
  unfolding edges_differ edge_at
  differ_holds = places_differ m.edges s.not_alike

  edges_hold : edges_good m ≡ true
  unfolding edges_good
  edges_hold = edge-each m _ (λ e u.
      let k = s.edges e u in
      both-and (both-and k.parent_shared k.label) (then_or (eqb (edge_at m e).child 0) (λ q.
      let l = k.child (eqb-false (edge_at m e).child 0 q) in
      both-and (both-and l.is_shared (eq-eqb _ _ l.previous)) (eq-eqb _ _ l.kind_fits))))

  few_hold : transitions_limited m ≡ true
  unfolding transitions_limited
  few_hold = shape-each m _ (λ n u.
      let few = (s.shapes n u).words.transitions in
      both-and (le-leb _ _ few) (then_or (ltb (shape_at m n).transitions 1024) (λ q.
      let most = ltb-false (shape_at m n).transitions 1024 q in
      eq-eqb (shape_at m n).holds 0 ((s.shapes n u).limits.unheld (omega arith)))))

  held_hold : holds_limited m ≡ true
  unfolding holds_limited
  held_hold = shape-each m _ (λ n u.
      let l = (s.shapes n u).limits in
      both-and (both-and (le-leb _ _ l.holds) (le-leb _ _ l.property)) (le-leb _ _ l.prototype))

  room-holds : fits m ≡ true
  unfolding fits table_at
  room-holds = every-make _ m.tables free (λ t low high. go t (table_at m t) refl)
    where
      go : (t : ℕ) (x : Table) → table_at m t ≡ x → room_for m.K x ≡ true
      go t free q = le-leb 0 m.K (omega arith)
      go t (used es) q = le-leb (length es) m.K (s.tables t es q).room

  pub facts_sound : (fits m ≡ true) × (sound_model m ≡ true)
  unfolding sound_model
  facts_sound = (
    room-holds,
    passed-all (model_sentences m)
        (range_holds
        and in_use_holds
        and free_holds
        and tables_hold
        and users_hold
        and counts_hold
        and roots_hold
        and linked_holds
        and stepped_holds
        and differ_holds
        and edges_hold
        and few_hold
        and held_hold
        and uniques_hold
        and tt),
  )
