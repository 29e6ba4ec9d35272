-- Document 01, "Sound means all of this", as facts about places. Place 0 and those past the end are free.
-- Assumes nothing.
use Rattle.std.specs.Prelude.{true, false, not, List, ◌⊎◌, ◌≢◌, ◌≡◌, refl, ℕ, ◌+◌, ◌≤◌, eqb, length}
use Rattle.std.proofs.Common.{true≢false, inl, inr, sym, ◌∙◌, ap, eqb-true, arith}
use Rattle.store.specs.Model.{Table, free, used, Model, no_counters, no_shape, no_edge, free_shape, free_table}
use Rattle.store.specs.Model.{free_edge, shape_at, table_at, edge_at, entries_of}
use Rattle.store.specs.PlaceLaws.{at-inside}
use Rattle.store.specs.Image.{Place}
use Rattle.store.specs.ListLaws.{Decided, and_both, both-and, either}
use Rattle.store.specs.declared.Shape.{Shape}
use Rattle.store.specs.declared.Entry.{Entry}
use Rattle.store.specs.declared.Edge.{Edge}
use Rattle.rules.specs.Shapes.{shared, unique, is_root, is_child, table_of, entries}
use Rattle.rules.specs.Steps.{edge_kind}
use Rattle.rules.specs.Sound.{good_entries, step_of, leads, good_label}
use Rattle.rules.specs.InUse.{used_table_inside}
use Rattle.rules.specs.Sweep.{deadened}

-- ## A shape in use

abbrev pub Used : Model → ℕ → Type 0
Used m n = free_shape (shape_at m n) ≡ false

-- "A root has previous, kind, both counts and prototype 0."
pub record RootZero (s : Shape) : Type 0 where
  pub step : s.step ≡ 0
  pub transitions : s.transitions ≡ 0
  pub properties : s.properties ≡ 0
  pub prototype : s.prototype ≡ 0

-- "A unique shape has 0 in previous, kind, transition count and counters." The counters are in `InLimits`.
pub record UniqueZero (s : Shape) : Type 0 where
  pub previous : s.previous ≡ 0
  pub step : s.step ≡ 0
  pub transitions : s.transitions ≡ 0

-- What is said of its own words, holds and counters aside.
pub record GoodWords (s : Shape) : Type 0 where
  pub state : (shared s ≡ true) ⊎ (unique s ≡ true)
  pub step : s.step ≤ 2
  pub transitions : s.transitions ≤ 1024
  pub root : is_root s ≡ true → RootZero s
  pub unique : unique s ≡ true → UniqueZero s

-- "1,024 has no holds. Holds are at most 65,535, counters at most 255", 0 in a unique.
pub record InLimits (s : Shape) : Type 0 where
  pub unheld : s.transitions ≡ 1024 → s.holds ≡ 0
  pub holds : s.holds ≤ 65535
  pub property : s.counters.property ≤ 255
  pub prototype : s.counters.prototype ≤ 255
  pub unique : unique s ≡ true → s.counters ≡ no_counters

-- What is said of a shape s at place n that is shared and no root; p is its previous.
pub record ChildSound (m : Model) (n : ℕ) (s p : Shape) : Type 0 where
  pub previous_shared : shared p ≡ true
  pub one_more : s.transitions ≡ p.transitions + 1
  -- the place of the one edge to it
  pub edge : ℕ
  pub leads_here : (edge_at m edge).child ≡ n
  pub only_edge : (e : ℕ) → (edge_at m e).child ≡ n → e ≡ edge
  pub from_previous : (edge_at m edge).parent ≡ s.previous
  pub stepped : let t = step_of s.step (edge_at m edge) in
      leads t (entries m p) p.prototype (entries m s) s.prototype ≡ true

-- What is said of a shape s in use at place n.
pub record ShapeSound (m : Model) (n : ℕ) (s : Shape) : Type 0 where
  pub words : GoodWords s
  pub limits : InLimits s
  pub table_used : free_table (table_at m s.table) ≡ false
  pub count_fits : s.properties ≤ length (table_of m s)
  pub unique_whole : unique s ≡ true → s.properties ≡ length (table_of m s)
  pub unique_alone : unique s ≡ true → (k : ℕ) → Used m k → (shape_at m k).table ≡ s.table → k ≡ n
  pub child : is_child s ≡ true → ChildSound m n s (shape_at m s.previous)

-- ## A table in use

-- A shape that uses the table at t.
pub record User (m : Model) (t : ℕ) : Type 0 where
  pub place : ℕ
  pub is_used : Used m place
  pub its : (shape_at m place).table ≡ t

-- What is said of a table in use with the entries es.
pub record GoodTable (K : ℕ) (es : List Entry) : Type 0 where
  pub good : good_entries es ≡ true
  pub room : length es ≤ K

-- ## An edge in use

pub record LeadsTo (e : Edge) (c : Shape) : Type 0 where
  pub is_shared : shared c ≡ true
  pub previous : c.previous ≡ e.parent
  pub kind_fits : edge_kind (step_of c.step e) ≡ e.kind

pub record EdgeSound (m : Model) (e : Edge) : Type 0 where
  pub parent_shared : shared (shape_at m e.parent) ≡ true
  pub kind : e.kind ≤ 1
  pub label : good_label (entries m (shape_at m e.parent)) e ≡ true
  pub child : e.child ≢ 0 → LeadsTo e (shape_at m e.child)

-- They agree in all but the child.
abbrev pub Alike : Edge → Edge → Type 0
Alike e f = deadened e ≡ deadened f

-- ## The whole model

pub record Sound (m : Model) : Type 0 where
  pub shapes : (n : ℕ) → Used m n → ShapeSound m n (shape_at m n)
  pub tables : (t : ℕ) (es : List Entry) → table_at m t ≡ used es → GoodTable m.K es
  pub users : (t : ℕ) → free_table (table_at m t) ≡ false → User m t
  pub edges : (e : ℕ) → free_edge (edge_at m e) ≡ false → EdgeSound m (edge_at m e)
  pub not_alike : (e f : ℕ) → free_edge (edge_at m e) ≡ false → Alike (edge_at m e) (edge_at m f) → e ≡ f
  pub free_shapes : (n : ℕ) → free_shape (shape_at m n) ≡ true → shape_at m n ≡ no_shape
  pub free_edges : (e : ℕ) → free_edge (edge_at m e) ≡ true → edge_at m e ≡ no_edge

-- ## Small consequences

pub unique_used : (s : Shape) → unique s ≡ true → free_shape s ≡ false
unique_used s h = ap (λ (x : ℕ). eqb x 0) (eqb-true s.state 2 h)

pub shared-not-unique : (s : Shape) → shared s ≡ true → unique s ≡ false
shared-not-unique s h = ap (λ (x : ℕ). eqb x 2) (eqb-true s.state 1 h)

-- A shape in use is in one of the two states.
pub shared-or-unique : {s : Shape} → GoodWords s → shared s ≡ not (unique s)
shared-or-unique {s} w = go w.state
  where
    go : (shared s ≡ true) ⊎ (unique s ≡ true) → shared s ≡ not (unique s)
    go (inl h) = h ∙ sym (ap not (shared-not-unique s h))
    go (inr r) = ap (λ (x : ℕ). eqb x 1) (eqb-true s.state 2 r) ∙ sym (ap not r)

-- A shape in use stands at a place.
pub used_place : (m : Model) (n : ℕ) → Used m n → n ≢ 0
unfolding shape_at
used_place m n u e = let z : Used m 0 = rw e at u in true≢false z

pub used_place_inside : (m : Model) (n : ℕ) → Used m n → Place (length m.shapes) n
unfolding shape_at
used_place_inside m n u =
    let inside = at-inside free_shape m.shapes n no_shape refl u in
    record { low = inside.0; high = inside.1 }

pub used_table : (t : Table) → free_table t ≡ false → t ≡ used (entries_of t)
used_table free e = absurd (true≢false e)
used_table (used es) e = refl

-- A shape with transitions is shared and no root.
pub transitions_child : {s : Shape} → GoodWords s → s.transitions ≢ 0 → is_child s ≡ true
transitions_child {s} w h = go w.state (either (eqb s.previous 0))
  where
    go : (shared s ≡ true) ⊎ (unique s ≡ true) → Decided (eqb s.previous 0)
        → is_child s ≡ true
    go (inr e) q = absurd (h (w.unique e).transitions)
    go (inl e) (inl q) = absurd (h (w.root (both-and e q)).transitions)
    go (inl e) (inr q) = both-and e (rw q)

pub child-shared : (s : Shape) → is_child s ≡ true → shared s ≡ true
child-shared s c = (and_both (shared s) c).0

-- ## What a shape in use has

module _ (m : Model) (sound : Sound m) (n : ℕ) (u : Used m n) where
  pub table-inside : Place (length m.tables) (shape_at m n).table
  table-inside = used_table_inside m (shape_at m n).table (sound.shapes n u).table_used

  pub keys_fit : (shape_at m n).properties ≤ m.K
  keys_fit =
      let s = shape_at m n in
      let its = used_table (table_at m s.table) (sound.shapes n u).table_used in
      let most = (sound.tables s.table (table_of m s) its).room in
      let few = (sound.shapes n u).count_fits in
      omega arith
