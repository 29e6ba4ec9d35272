-- What the tests of soundness say of places: records in use, users of a table, the one edge, edges alike.
-- Assumes nothing.
use Rattle.std.specs.Prelude.{Bool, false, ◌&&◌, ◌||◌, not, ◌≢◌, ◌≡◌, eqb}
use Rattle.std.proofs.Math.Bool.{true}
use Rattle.std.proofs.Common.{true≢false, sym, ◌∙◌, arith}
use Rattle.std.proofs.lemmas.Bool.{false≢true}
use mathlib.Core.List.{List, [], ◌∷◌}
use Rattle.std.proofs.Math.Path.{refl, ap}
use Prim.Native.Nat.{ℕ, zero, suc, ◌≤◌}
use borrow.Author.Tests.{eqb-true, eq-eqb, ne_eqb, not-true}
use Rattle.std.proofs.Math.ListN.{length}
use Rattle.store.specs.Lists.{at, keep, any, only_one, zeros}
use Rattle.store.specs.Model.{Table, free, used, Model, no_shape, no_edge, free_shape, free_edge, shape_at}
use Rattle.store.specs.Model.{table_at, edge_at}
use Rattle.store.specs.Layout.{shape_words, edge_words, read_shape, read_edge}
use Rattle.store.specs.ListLaws.{and_both, both-and, or_then, then_or, every-make}
use Rattle.store.specs.ListLaws.{numbered-every, not-both, any_place, place-any, keep-any}
use Rattle.store.specs.ListLaws.{any-keep, only_kept, kept-only, zeros→replicate}
use Rattle.store.specs.declared.Shape.{Shape}
use Rattle.store.specs.declared.Entry.{Entry}
use Rattle.store.specs.declared.Edge.{Edge}
use Rattle.rules.specs.Steps.{alike}
use Rattle.rules.specs.Sound.{each_shape, on_table, each_table, each_edge, uses, users, edges_to, no_two_alike}
use Rattle.theorems.specs.Facts.{Used, User, Alike}

-- ## Each record in use

module _ (m : Model) where
  pub shape-each : (test : ℕ → Shape → Bool) → ((n : ℕ) → Used m n → test n (shape_at m n) ≡ true)
      → each_shape m test ≡ true
  unfolding shape_at
  shape-each test h = numbered-every no_shape _ m.shapes (λ n. then_or (free_shape (shape_at m n)) (h n))

  pub table-each : (test : ℕ → List Entry → Bool)
      → ((t : ℕ) (es : List Entry) → table_at m t ≡ used es → test t es ≡ true)
      → each_table m test ≡ true
  unfolding table_at
  table-each test h = numbered-every free (on_table test) m.tables (λ t. go t (table_at m t) refl)
    where
      go : (t : ℕ) (x : Table) → table_at m t ≡ x → on_table test (t, x) ≡ true
      go t free q = refl
      go t (used es) q = h t es q

  pub edge-each : (test : Edge → Bool)
      → ((e : ℕ) → free_edge (edge_at m e) ≡ false → test (edge_at m e) ≡ true) → each_edge m test ≡ true
  unfolding edge_at
  edge-each test h = every-make _ m.edges no_edge (λ e low high. then_or (free_edge (edge_at m e)) (h e))

-- ## Zeros

pub zero-shape : (s : Shape) → zeros (shape_words s) ≡ true → s ≡ no_shape
zero-shape s e = ap read_shape (zeros→replicate (shape_words s) e)

pub zero-edge : (e : Edge) → zeros (edge_words e) ≡ true → e ≡ no_edge
zero-edge e h = ap read_edge (zeros→replicate (edge_words e) h)

-- ## Users of a table

module _ (m : Model) where
  its_user : (t n : ℕ) → uses t (shape_at m n) ≡ true → Used m n × ((shape_at m n).table ≡ t)
  its_user t n e =
      let p = and_both (not (free_shape (shape_at m n))) e in
      (not-true (free_shape (shape_at m n)) p.0, eqb-true (shape_at m n).table t p.1)

  user_is : (t n : ℕ) → Used m n → (shape_at m n).table ≡ t → uses t (shape_at m n) ≡ true
  user_is t n u e = rw u (eq-eqb (shape_at m n).table t e)

  -- Some shape passes the test exactly if there is a user,
  pub any_user : (t : ℕ) → any (uses t) m.shapes ≡ true → User m t
  unfolding shape_at
  any_user t e = go (any_place (uses t) no_shape refl m.shapes e)
    where
      go : (n : ℕ) × (uses t (at m.shapes n no_shape) ≡ true) → User m t
      go (n, e) = record { place = n; is_used = (its_user t n e).0; its = (its_user t n e).1 }

  pub user_any : (t : ℕ) → User m t → any (uses t) m.shapes ≡ true
  unfolding shape_at
  user_any t u =
      place-any (uses t) no_shape refl m.shapes u.place (user_is t u.place u.is_used u.its)

  -- and then the users are counted.
  pub a_user : (t : ℕ) → 1 ≤ users m t → User m t
  a_user t l = any_user t (keep-any (uses t) no_shape refl m.shapes l)

  pub user_counts : (t : ℕ) → User m t → 1 ≤ users m t
  user_counts t u = any-keep (uses t) no_shape refl m.shapes (user_any t u)

  pub one_user : (n : ℕ) → Used m n → users m (shape_at m n).table ≡ 1
      → (k : ℕ) → Used m k → (shape_at m k).table ≡ (shape_at m n).table → k ≡ n
  unfolding shape_at
  one_user n u e k v q = go (keep (uses t) m.shapes) refl e
    where
      t : ℕ
      t = (shape_at m n).table

      go : (xs : List Shape) → keep (uses t) m.shapes ≡ xs → length xs ≡ 1 → k ≡ n
      go [] f l = absurd (omega arith)
      go (x ∷ y ∷ xs) f l = absurd (omega arith)
      go (x ∷ []) f l =
          let (p, its, o) = kept-only (uses t) no_shape refl m.shapes x f in
          o.only k (user_is t k v q) ∙ sym (o.only n (user_is t n u refl))

  pub alone-counts : (n : ℕ) → Used m n
      → ((k : ℕ) → Used m k → (shape_at m k).table ≡ (shape_at m n).table → k ≡ n)
      → users m (shape_at m n).table ≡ 1
  unfolding shape_at
  alone-counts n u h =
      let t = (shape_at m n).table in
      ap length
      (only_kept (uses t) no_shape refl m.shapes n
      (record {
        passes = user_is t n u refl;
        only = λ k e. h k (its_user t k e).0 (its_user t k e).1;
      }))

-- ## The edge to a child

module _ (m : Model) (n : ℕ) (place : n ≢ 0) where
  abbrev to : Edge → Bool
  to e = eqb e.child n

  nowhere : to no_edge ≡ false
  nowhere = ne_eqb 0 n (λ e. place (sym e))

  -- The place of the one edge to n, which passes the test.
  pub record OneEdge (test : Edge → Bool) : Type 0 where
    pub edge : ℕ
    pub alone : edges_to m n ≡ edge_at m edge ∷ []
    pub passes : test (edge_at m edge) ≡ true
    pub leads_here : (edge_at m edge).child ≡ n
    pub only_edge : (e : ℕ) → (edge_at m e).child ≡ n → e ≡ edge

  pub one-edge : (test : Edge → Bool) → only_one test (edges_to m n) ≡ true → OneEdge test
  unfolding edge_at
  one-edge test h = go (edges_to m n) refl h
    where
      go : (xs : List Edge) → edges_to m n ≡ xs → only_one test xs ≡ true → OneEdge test
      go [] f l = absurd (false≢true l)
      go (x ∷ y ∷ xs) f l = absurd (false≢true l)
      go (x ∷ []) f l =
          let (e, its, o) = kept-only to no_edge nowhere m.edges x f in
          record {
            edge = e;
            alone = rw its f;
            passes = rw its l;
            leads_here = eqb-true (edge_at m e).child n o.passes;
            only_edge = λ k q. o.only k (eq-eqb (edge_at m k).child n q);
          }

  pub edge_to : (e : ℕ) → (edge_at m e).child ≡ n → ((k : ℕ) → (edge_at m k).child ≡ n → k ≡ e)
      → edges_to m n ≡ edge_at m e ∷ []
  unfolding edge_at
  edge_to e h only =
      only_kept to no_edge nowhere m.edges e
      (record {
        passes = eq-eqb (edge_at m e).child n h;
        only = λ k q. only k (eqb-true (edge_at m k).child n q);
      })

-- ## Edges that are alike

pub alike_is : (e f : Edge) → alike e f ≡ true → Alike e f
alike_is e f h =
    let same_parent = eqb e.parent f.parent in
    let same_kind = eqb e.kind f.kind in
    let p = and_both (same_parent && same_kind && eqb e.label f.label) h in
    let q = and_both (same_parent && same_kind) p.0 in
    let r = and_both same_parent q.0 in
    let parent = eqb-true e.parent f.parent r.0 in
    let kind = eqb-true e.kind f.kind r.1 in
    let label = eqb-true e.label f.label q.1 in
    let attributes = eqb-true e.attributes f.attributes p.1 in
    λ i. record { parent = parent i; kind = kind i; label = label i; attributes = attributes i; child = 0 }

pub is_alike : (e f : Edge) → Alike e f → alike e f ≡ true
is_alike e f h =
    both-and
    (both-and
    (both-and (eq-eqb e.parent f.parent (ap (λ (x : Edge). x.parent) h))
    (eq-eqb e.kind f.kind (ap (λ (x : Edge). x.kind) h)))
    (eq-eqb e.label f.label (ap (λ (x : Edge). x.label) h)))
    (eq-eqb e.attributes f.attributes (ap (λ (x : Edge). x.attributes) h))

-- An edge in use is like none of the later ones.
later_differ : (e : Edge) (es : List Edge) → no_two_alike (e ∷ es) ≡ true → free_edge e ≡ false
    → (k : ℕ) → Alike e (at es k no_edge) → ⊥
later_differ e es h u k l =
    let no = not-true (any (alike e) es) (or_then (free_edge e) (and_both _ h).0 u) in
    let out : alike e no_edge ≡ false = rw u in
    not-both (place-any (alike e) no_edge out es k (is_alike e (at es k no_edge) l)) no

pub differ_places : (es : List Edge) → no_two_alike es ≡ true → (a b : ℕ)
    → free_edge (at es a no_edge) ≡ false → Alike (at es a no_edge) (at es b no_edge) → a ≡ b
differ_places es h zero b u l = absurd (true≢false u)
differ_places es h (suc a) zero u l = not-both (ap free_edge l) u
differ_places [] h (suc a) (suc b) u l = absurd (true≢false u)
differ_places (e ∷ es) h (suc zero) (suc zero) u l = refl
differ_places (e ∷ es) h (suc zero) (suc (suc b)) u l = absurd (later_differ e es h u (suc b) l)
differ_places (e ∷ es) h (suc (suc a)) (suc zero) u l =
    absurd (later_differ e es h (sym (ap free_edge l) ∙ u) (suc a) (sym l))
differ_places (e ∷ es) h (suc (suc a)) (suc (suc b)) u l =
    ap suc (differ_places es (and_both (free_edge e || not (any (alike e) es)) h).1 (suc a) (suc b) u l)

pub places_differ : (es : List Edge)
    → ((a b : ℕ) → free_edge (at es a no_edge) ≡ false → Alike (at es a no_edge) (at es b no_edge) → a ≡ b)
    → no_two_alike es ≡ true
places_differ [] h = refl
places_differ (e ∷ es) h = both-and (then_or (free_edge e) none) (places_differ es rest)
  where
    rest : (a b : ℕ) → free_edge (at es a no_edge) ≡ false → Alike (at es a no_edge) (at es b no_edge) → a ≡ b
    rest zero b u l = absurd (true≢false u)
    rest (suc a) zero u l = not-both (ap free_edge l) u
    rest (suc a) (suc b) u l = omega (arith, h (suc (suc a)) (suc (suc b)) u l)

    none : free_edge e ≡ false → not (any (alike e) es) ≡ true
    none u = go (any (alike e) es) refl
      where
        first_of : (k : ℕ) → alike e (at es k no_edge) ≡ true → ⊥
        first_of zero l = not-both (ap free_edge (alike_is e no_edge l)) u
        first_of (suc k) l = omega (arith, h 1 (suc (suc k)) u (alike_is e (at es (suc k) no_edge) l))

        go : (b : Bool) → any (alike e) es ≡ b → not b ≡ true
        go false q = refl
        go true q =
            let out : alike e no_edge ≡ false = rw u in
            let (k, l) = any_place (alike e) no_edge out es q in
            absurd (first_of k l)
