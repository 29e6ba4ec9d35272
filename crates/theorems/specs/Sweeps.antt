-- A sweep that leaves a set of shapes closed under previous: the model stays sound, and what stays is kept.
-- Assumes nothing.
use Rattle.std.specs.Prelude.{true, false, List, ◌≢◌, ◌≡◌, ℕ}
use Rattle.std.proofs.Common.{inl, inr, sym, ◌∙◌, ap, ne_eqb}
use Rattle.store.specs.Model.{free, used, Model, no_shape, free_shape, free_table, free_edge, shape_at}
use Rattle.store.specs.Model.{table_at, edge_at}
use Rattle.store.specs.ListLaws.{Decided, both-and, either, not-both}
use Rattle.store.specs.declared.Shape.{Shape}
use Rattle.store.specs.declared.Entry.{Entry}
use Rattle.store.specs.declared.Edge.{Edge}
use Rattle.rules.specs.Shapes.{is_child}
use Rattle.rules.specs.InUse.{shared_used}
use Rattle.theorems.specs.Facts.{Used, User, Sound, used_place}
use Rattle.theorems.specs.Frame.{core, ShapeCase, stays, EdgeCase, kept, cut, vacant, Change, Keeps}
use Rattle.theorems.specs.Frame.{change_keeps, longer_same}
use Rattle.theorems.specs.SweepLaws.{AfterSweep, EdgeAfterSweep, left, died, gone, Swept, stays_same}

-- Each shape of the set is in use, and with it its previous is of the set.
pub record Closed (m : Model) (P : ℕ → Type 0) : Type 0 where
  pub is_used : (n : ℕ) → P n → Used m n
  pub previous : (n : ℕ) → P n → is_child (shape_at m n) ≡ true → P (shape_at m n).previous

module _ {P : ℕ → Type 0} {m j : Model} (sound : Sound m) (closed : Closed m P) (w : Swept P m j) where
  same_shape : (n : ℕ) → P n → shape_at j n ≡ shape_at m n
  same_shape n p = stays_same p (w.shapes n)

  same_table : (n : ℕ) → P n → table_at j (shape_at m n).table ≡ table_at m (shape_at m n).table
  same_table n p =
      let same = same_shape n p in
      let user : User j (shape_at m n).table
      = record {
        place = n;
        is_used = ap free_shape same ∙ closed.is_used n p;
        its = ap (λ (s : Shape). s.table) same;
      } in
      stays_same user (w.tables (shape_at m n).table)

  a-shape : (n : ℕ) → ShapeCase m j P n
  a-shape n = go (w.shapes n)
    where
      go : AfterSweep (P n) no_shape (shape_at m n) (shape_at j n) → ShapeCase m j P n
      go (left p e) = stays p
      go (gone away e) = vacant e

  a-table : (t : ℕ) (es : List Entry) → table_at j t ≡ used es → table_at m t ≡ used es
  a-table t es q = go (w.tables t)
    where
      go : AfterSweep (User j t) free (table_at m t) (table_at j t) → table_at m t ≡ used es
      go (left u e) = sym e ∙ q
      go (gone away e) = not-both (ap free_table e) (ap free_table q)

  a_user : (t : ℕ) → free_table (table_at j t) ≡ false → User j t
  a_user t u = go (w.tables t)
    where
      go : AfterSweep (User j t) free (table_at m t) (table_at j t) → User j t
      go (left user e) = user
      go (gone away e) = not-both (ap free_table e) u

  an_edge : (e : ℕ) → EdgeCase m j P e
  an_edge e = go (w.edges e)
    where
      go : EdgeAfterSweep P (edge_at m e) (edge_at j e) → EdgeCase m j P e
      go (left p c q) = kept q p c
      go (died p some away q) = cut q p
      go (gone away q) = vacant q

  -- An edge to a shape that stays comes from one that stays.
  parent_stays : (e : ℕ) → P (edge_at m e).child → P (edge_at m e).parent
  parent_stays e p = go (either (free_edge (edge_at m e)))
    where
      c : ℕ
      c = (edge_at m e).child

      place : c ≢ 0
      place = used_place m c (closed.is_used c p)

      go : Decided (free_edge (edge_at m e)) → P (edge_at m e).parent
      go (inl f) = absurd (place (ap (λ (x : Edge). x.child) (sound.free_edges e f)))
      go (inr u) =
          let s = sound.edges e u in
          let l = s.child place in
          let parent = used_place m _ (shared_used (shape_at m (edge_at m e).parent) s.parent_shared) in
          let some = ne_eqb (shape_at m c).previous 0 (λ z. parent (sym l.previous ∙ z)) in
          rw l.previous at (closed.previous c p (both-and l.is_shared (rw some)))

  edge_stays : (n : ℕ) → P n → (e : ℕ) → (edge_at m e).child ≡ n → edge_at j e ≡ edge_at m e
  edge_stays n p e h = go (w.edges e)
    where
      its : P (edge_at m e).child
      its = rw h p

      go : EdgeAfterSweep P (edge_at m e) (edge_at j e) → edge_at j e ≡ edge_at m e
      go (left pp pc q) = q
      go (died pp some away q) = absurd (away its)
      go (gone away q) = absurd (away (parent_stays e its))

  sweep_change : Change m j P
  sweep_change =
      record {
        same_limits = w.limits;
        staying = λ n p. record {
          was_used = closed.is_used n p;
          previous = closed.previous n p;
          same_core = ap core (same_shape n p);
          limits = rw (same_shape n p) (sound.shapes n (closed.is_used n p)).limits;
          longer = rw (same_table n p) (longer_same (table_at m (shape_at m n).table));
          unique_table = λ r. same_table n p;
          edges = edge_stays n p;
        };
        shapes = a-shape;
        tables = λ t es q. inl (a-table t es q);
        users = a_user;
        edges = an_edge;
      }

  pub sweep_keeps : Keeps m j P
  sweep_keeps = change_keeps sound sweep_change
