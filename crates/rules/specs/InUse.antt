-- What the sentences about every record in use say of one of them.
-- Assumes nothing.
use Rattle.std.specs.Prelude.{Bool, ◌&&◌, List, ◌≡◌, ℕ, ◌≤◌}
use Rattle.std.proofs.Math.Bool.{true, false}
use Rattle.std.proofs.lemmas.Bool.{false≢true}
use Rattle.std.proofs.Math.Path.{refl}
use Rattle.std.proofs.Common.{ap}
use native.Mathlib.Omega.{arith}
use borrow.Author.Tests.{eqb-true, leb-true, not-true}
use Rattle.std.proofs.Math.Dec.{eqb, leb}
use Rattle.std.proofs.Math.ListN.{length}
use Rattle.std.specs.Prelude.{if◌then◌else◌}
use Rattle.slot.specs.Attributes.{most_stored, good_attributes}
use Rattle.store.specs.Model.{free, used, Model, no_shape, no_edge, free_shape, free_table, free_edge}
use Rattle.store.specs.Model.{shape_at, table_at, edge_at}
use Rattle.store.specs.ListLaws.{and_both, or_then, every-place, every-numbered}
use Rattle.store.specs.PlaceLaws.{at-inside}
use Rattle.store.specs.Image.{Place}
use Rattle.store.specs.declared.Shape.{Shape}
use Rattle.store.specs.declared.Entry.{Entry}
use Rattle.store.specs.declared.Edge.{Edge}
use Rattle.rules.specs.Numbers.{good_key}
use Rattle.rules.specs.Shapes.{shared_state, unique_state, shared, unique, table_of}
use Rattle.rules.specs.Steps.{prototype_step_kind, property_edge_kind, prototype_edge_kind}
use Rattle.rules.specs.Sound.{each_shape, on_table, each_table, each_edge, shape_ranged, in_range, table_in_use}
use Rattle.rules.specs.Sound.{counts_fit, good_label}

-- ## Each record in use

pub shared_used : (s : Shape) → shared s ≡ true → free_shape s ≡ false
shared_used s h = ap (λ (x : ℕ). eqb x 0) (eqb-true s.state shared_state h)

module _ (m : Model) where
  pub each-shape : (test : ℕ → Shape → Bool) → each_shape m test ≡ true
      → (n : ℕ) → free_shape (shape_at m n) ≡ false → test n (shape_at m n) ≡ true
  unfolding shape_at
  each-shape test e n u =
      or_then (free_shape (shape_at m n)) (every-numbered no_shape _ (λ k. refl) m.shapes e n) u

  pub each-table : (test : ℕ → List Entry → Bool) → each_table m test ≡ true
      → (t : ℕ) (es : List Entry) → table_at m t ≡ used es → test t es ≡ true
  unfolding table_at
  each-table test e t es q = rw q at (every-numbered free (on_table test) (λ k. refl) m.tables e t)

  pub each-edge : (test : Edge → Bool) → each_edge m test ≡ true
      → (e : ℕ) → free_edge (edge_at m e) ≡ false → test (edge_at m e) ≡ true
  unfolding edge_at
  each-edge test h e u = or_then (free_edge (edge_at m e)) (every-place no_edge _ m.edges refl h e) u

  pub used_table_inside : (t : ℕ) → free_table (table_at m t) ≡ false → Place (length m.tables) t
  unfolding table_at
  used_table_inside t u =
      let inside = at-inside free_table m.tables t free refl u in
      record { low = inside.0; high = inside.1 }

-- ## In range

pub record ShapeRanges (m : Model) (s : Shape) : Type 0 where
  pub state : s.state ≤ unique_state
  pub step : s.step ≤ prototype_step_kind
  pub previous : s.previous ≤ length m.shapes
  pub table : s.table ≤ length m.tables

pub record EdgeRanges (m : Model) (e : Edge) : Type 0 where
  pub kind : e.kind ≤ prototype_edge_kind
  pub parent : e.parent ≤ length m.shapes
  pub child : e.child ≤ length m.shapes

module _ (m : Model) (ranged : in_range m ≡ true) where
  abbrev its_range : Shape → Bool
  its_range = shape_ranged (length m.shapes) (length m.tables)

  pub shape-ranges : (n : ℕ) → free_shape (shape_at m n) ≡ false → ShapeRanges m (shape_at m n)
  unfolding in_range
  shape-ranges n u =
      let s = shape_at m n in
      let its = each-shape m (λ k s. its_range s) (and_both _ ranged).0 n u in
      let in_state = leb s.state unique_state in
      let in_step = leb s.step prototype_step_kind in
      let (front, table) = and_both (in_state && in_step && leb s.previous _) its in
      let (kinds, previous) = and_both (in_state && in_step) front in
      let (state, step) = and_both in_state kinds in
      record {
        state = leb-true s.state unique_state state;
        step = leb-true s.step prototype_step_kind step;
        previous = leb-true s.previous _ previous;
        table = leb-true s.table _ table;
      }

  pub edge-ranges : (k : ℕ) → free_edge (edge_at m k) ≡ false → EdgeRanges m (edge_at m k)
  unfolding in_range
  edge-ranges k u =
      let e = edge_at m k in
      let (_, edges) = and_both (each_shape m (λ n s. its_range s)) ranged in
      let in_kind = leb e.kind prototype_edge_kind in
      let (front, child) = and_both (in_kind && leb e.parent _) (each-edge m _ edges k u) in
      let (kind, parent) = and_both in_kind front in
      record {
        kind = leb-true e.kind prototype_edge_kind kind;
        parent = leb-true e.parent _ parent;
        child = leb-true e.child _ child;
      }

-- ## Labels

-- "its attributes up to 31", and "attributes 0" for a prototype
pub label_attributes : (es : List Entry) (e : Edge) → good_label es e ≡ true → e.attributes ≤ most_stored
label_attributes es e h = go (eqb e.kind property_edge_kind) refl
  where
    go : (b : Bool) → eqb e.kind property_edge_kind ≡ b → e.attributes ≤ most_stored
    go true property =
        let most = (and_both (good_key e.label && good_attributes e.attributes) (rw property at h)).0 in
        leb-true e.attributes most_stored (and_both (good_key e.label) most).1
    go false other =
        let none = eqb-true e.attributes 0 (rw other at h) in
        omega arith

-- ## Tables and counts

module _ (m : Model) where
  pub table_in_use_lem : table_in_use m ≡ true → (n : ℕ) → free_shape (shape_at m n) ≡ false
      → free_table (table_at m (shape_at m n).table) ≡ false
  unfolding table_in_use
  table_in_use_lem e n u = not-true (free_table (table_at m (shape_at m n).table)) (each-shape m _ e n u)

  pub count_fits_lem : counts_fit m ≡ true → (n : ℕ) → free_shape (shape_at m n) ≡ false
      → ((shape_at m n).properties ≤ length (table_of m (shape_at m n)))
      × (unique (shape_at m n) ≡ true → (shape_at m n).properties ≡ length (table_of m (shape_at m n)))
  unfolding counts_fit
  count_fits_lem e n u = go (unique (shape_at m n)) (each-shape m _ e n u)
    where
      go : (b : Bool)
          → (if b then eqb (shape_at m n).properties (length (table_of m (shape_at m n)))
          else leb (shape_at m n).properties (length (table_of m (shape_at m n)))) ≡ true
          → ((shape_at m n).properties ≤ length (table_of m (shape_at m n)))
          × (b ≡ true → (shape_at m n).properties ≡ length (table_of m (shape_at m n)))
      go true h =
          let q : (shape_at m n).properties ≡ length (table_of m (shape_at m n)) = eqb-true _ _ h in
          (omega arith, λ z. q)
      go false h = (leb-true _ _ h, λ z. absurd (false≢true z))

-- The shape's table is a place, and has an entry for each key that the shape counts.
pub record Tabled (m : Model) (s : Shape) : Type 0 where
  pub table : Place (length m.tables) s.table
  pub fits : s.properties ≤ length (table_of m s)

pub tabled : (m : Model) → table_in_use m ≡ true → counts_fit m ≡ true → (n : ℕ) {s : Shape}
    → s ≡ shape_at m n → free_shape s ≡ false → Tabled m s
tabled m in_use counts n {s} its u =
    let used : free_shape (shape_at m n) ≡ false = rw (← its) u in
    rw its record {
      table = used_table_inside m (shape_at m n).table (table_in_use_lem m in_use n used);
      fits = (count_fits_lem m counts n used).0;
    }
