-- A child with its edge and its table: the model stays sound and every shape is kept.
-- Assumes nothing.
use Rattle.std.specs.Prelude.{true, List, ◌⊎◌, ◌≢◌, ◌≡◌, ℕ, ◌+◌, ◌≤◌, ◌<◌, length, take}
use Rattle.std.proofs.lemmas.Bool.{false≢true}
use Rattle.std.proofs.Common.{inl, inr, sym, ◌∙◌, arith, eqb-true}
use Rattle.std.proofs.Math.Path.{refl, ap}
use Rattle.store.specs.Lists.{at}
use Rattle.store.specs.Model.{Table, free, used, Model, no_shape, no_edge, free_shape, free_edge, shape_at}
use Rattle.store.specs.Model.{table_at, edge_at, put_shape, put_edge}
use Rattle.store.specs.PlaceLaws.{length-put, same?, AfterPut, here, elsewhere, after-put, put_here}
use Rattle.store.specs.PlaceLaws.{put_elsewhere}
use Rattle.store.specs.ListLaws.{Decided, either, not-both}
use Rattle.store.specs.declared.Shape.{Shape}
use Rattle.store.specs.declared.Entry.{Entry}
use Rattle.store.specs.declared.Edge.{Edge}
use Rattle.rules.specs.Shapes.{shared, unique, entries}
use Rattle.rules.specs.Steps.{Step, insert, configure, prototype, step_kind, edge_of, edge_kind, may_step}
use Rattle.rules.specs.Steps.{step_entries, added, Placed, child_shape}
use Rattle.rules.specs.Sound.{step_of, good_label}
use Rattle.rules.specs.Sweep.{deadened}
use Rattle.rules.specs.Trails.{made_by}
use Rattle.theorems.specs.Facts.{Used, ChildSound, ShapeSound, GoodTable, EdgeSound, Alike, Sound}
use Rattle.rules.specs.InUse.{shared_used}
use Rattle.theorems.specs.Facts.{used_place}
use Rattle.theorems.specs.TestsSay.{edge_to}
use Rattle.theorems.specs.Entries.{leads_on}
use Rattle.theorems.specs.Frame.{Longer, Keeps, longer_same, longer_entries}
use Rattle.theorems.specs.Taken.{FreePlace}
use Rattle.theorems.specs.Grow.{NewEdge, Growth, growth_keeps}

-- ## What a step needs, and the table it gets

-- The step t may be taken from the shape at n.
pub record Legal (m : Model) (n : ℕ) (t : Step) : Type 0 where
  pub is_shared : shared (shape_at m n) ≡ true
  pub below : (shape_at m n).transitions < 1024
  pub may : may_step t (entries m (shape_at m n)) ≡ true
  pub label : good_label (entries m (shape_at m n)) (edge_of n t 0) ≡ true

-- And there is no edge for it.
pub record Ready (m : Model) (n : ℕ) (t : Step) : Type 0 where
  pub legal : Legal m n t
  pub no_edge : (e : ℕ) → Alike (edge_of n t 0) (edge_at m e) → ⊥

-- Among the tables ts the one at place p has the entries es, and serves a child of s by the step t.
pub record Laid (m : Model) (s : Shape) (t : Step) (ts : List Table) (p : ℕ) (es : List Entry) : Type 0 where
  pub same_count : length ts ≡ length m.tables
  pub table : at ts p free ≡ used es
  pub other_tables : (k : ℕ) → k ≢ p → at ts k free ≡ table_at m k
  pub longer : Longer (table_at m p) (used es)
  pub not_unique : (k : ℕ) → Used m k → unique (shape_at m k) ≡ true → (shape_at m k).table ≢ p
  pub good : GoodTable m.K es
  pub enough : s.properties + added t ≤ length es
  pub stepped : take (s.properties + added t) es ≡ step_entries t (entries m s)

-- The child stands in a place that was free, with the entries that the step leads to, and all else is kept.
pub record Grown (m : Model) (n : ℕ) (t : Step) (y : Placed) : Type 0 where
  pub table : ℕ
  pub stands : shape_at y.0 y.1 ≡ child_shape n (shape_at m n) t table
  pub its_entries : entries y.0 (shape_at y.0 y.1) ≡ step_entries t (entries m (shape_at m n))
  pub its_step : made_by y.0 y.1 ≡ t
  pub was_free : free_shape (shape_at m y.1) ≡ true
  pub keeps : Keeps m y.0 (Used m)

abbrev pub with_tables : Model → List Table → Model
with_tables m ts = record { K = m.K; shapes = m.shapes; tables = ts; edges = m.edges }

-- ## The edge of a step

step_of_lem : (n : ℕ) (t : Step) (c : ℕ) → step_of (step_kind t) (edge_of n t c) ≡ t
step_of_lem n (insert k a) c = refl
step_of_lem n (configure k a) c = refl
step_of_lem n (prototype p) c = refl

kinds_low : (t : Step) → (step_kind t ≤ 2) × (edge_kind t ≤ 1)
kinds_low (insert k a) = omega arith
kinds_low (configure k a) = omega arith
kinds_low (prototype p) = omega arith

-- ## The child

module _ (m : Model) (sound : Sound m) (n : ℕ) (t : Step) (ready : Ready m n t)
    (ts : List Table) (p : ℕ) (es : List Entry) (laid : Laid m (shape_at m n) t ts p es)
    (c : ℕ) (shape_place : FreePlace free_shape no_shape m.shapes c)
    (e : ℕ) (edge_place : FreePlace free_edge no_edge m.edges e) where
  abbrev s : Shape
  s = shape_at m n

  abbrev x : Shape
  x = child_shape n (shape_at m n) t p

  abbrev y : Edge
  y = edge_of n t c

  abbrev j : Model
  j = put_edge (put_shape (with_tables m ts) c (child_shape n (shape_at m n) t p)) e (edge_of n t c)

  shape-at : (k : ℕ) → AfterPut c k x (shape_at m k) (shape_at j k)
  unfolding shape_at put_shape put_edge
  shape-at k = after-put m.shapes c x no_shape shape_place.low shape_place.high k

  edge-at : (k : ℕ) → AfterPut e k y (edge_at m k) (edge_at j k)
  unfolding edge_at put_shape put_edge
  edge-at k = after-put m.edges e y no_edge edge_place.low edge_place.high k

  table-at : (k : ℕ) → table_at j k ≡ at ts k free
  unfolding table_at put_shape put_edge
  table-at k = refl

  was_free_lem : free_shape (shape_at m c) ≡ true
  unfolding shape_at
  was_free_lem = shape_place.was_free

  edge_free : free_edge (edge_at m e) ≡ true
  unfolding edge_at
  edge_free = edge_place.was_free

  parent_used : Used m n
  parent_used = shared_used s ready.legal.is_shared

  parent_same : shape_at j n ≡ s
  parent_same = put_elsewhere (λ q. not-both (rw (← q) at was_free_lem) parent_used) (shape-at n)

  parent_longer : Longer (table_at m s.table) (table_at j s.table)
  parent_longer = go (same? s.table p)
    where
      go : (s.table ≡ p) ⊎ (s.table ≢ p) → Longer (table_at m s.table) (table_at j s.table)
      go (inl q) = rw (q, table-at p, laid.table) laid.longer
      go (inr q) =
          rw (table-at s.table, laid.other_tables s.table q) (longer_same (table_at m s.table))

  parent_entries : entries j s ≡ entries m s
  parent_entries = longer_entries m j s parent_longer (sound.shapes n parent_used).count_fits

  its-table : table_at j p ≡ used es
  its-table = table-at p ∙ laid.table

  place : c ≢ 0
  place q = omega (arith, shape_place.low)

  -- No edge led to the free place.
  only-edge : (k : ℕ) → (edge_at j k).child ≡ c → k ≡ e
  only-edge k h = go (edge-at k) (either (free_edge (edge_at m k)))
    where
      go : AfterPut e k y (edge_at m k) (edge_at j k)
          → Decided (free_edge (edge_at m k)) → k ≡ e
      go (here q z) u = q
      go (elsewhere q z) (inl f) =
          let none = ap (λ (d : Edge). d.child) (z ∙ sound.free_edges k f) in absurd (place (sym h ∙ none))
      go (elsewhere q z) (inr u) =
          let to : (edge_at m k).child ≡ c = rw z at h in
          let l = (sound.edges k u).child (λ q. place (sym to ∙ q)) in
          not-both was_free_lem (shared_used (shape_at m c) (rw to at l.is_shared))

  child-sound : ChildSound j c x s
  child-sound =
      let its = put_here (edge-at e) in
      record {
        previous_shared = ready.legal.is_shared;
        one_more = refl;
        edge = e;
        leads_here = rw its;
        only_edge = only-edge;
        from_previous = rw its;
        stepped = rw (its, step_of_lem n t c, parent_entries, its-table, laid.stepped)
            (leads_on t (entries m s) s.prototype ready.legal.may);
      }

  new_sound : ShapeSound j c x
  new_sound =
      let low = ready.legal.below in
      record {
        words = record {
          state = inl refl;
          step = (kinds_low t).0;
          transitions = omega arith;
          root = λ r. absurd (used_place m n parent_used (eqb-true n 0 r));
          unique = λ r. absurd (false≢true r);
        };
        limits = record {
          unheld = λ q. refl;
          holds = omega arith;
          property = omega arith;
          prototype = omega arith;
          unique = λ r. refl;
        };
        table_used = rw its-table;
        count_fits = rw its-table laid.enough;
        unique_whole = λ r. absurd (false≢true r);
        unique_alone = λ r. absurd (false≢true r);
        child = λ r. rw parent_same child-sound;
      }

  edge-sound : EdgeSound j y
  edge-sound =
      let its = put_here (shape-at c) in
      record {
        parent_shared = rw parent_same ready.legal.is_shared;
        kind = (kinds_low t).1;
        label = rw (parent_same, parent_entries) ready.legal.label;
        child = λ ne. rw its record {
          is_shared = refl;
          previous = refl;
          kind_fits = rw (step_of_lem n t c);
        };
      }

  unlike : (f : ℕ) → Alike y (edge_at j f) → f ≡ e
  unlike f l = go (edge-at f)
    where
      go : AfterPut e f y (edge_at m f) (edge_at j f) → f ≡ e
      go (here q z) = q
      go (elsewhere q z) = absurd (ready.no_edge f (l ∙ ap deadened z))

  an_edge : (k : ℕ) → (edge_at j k ≡ edge_at m k) ⊎ NewEdge m j c k
  an_edge k = go (edge-at k)
    where
      new : NewEdge m j c e
      new =
          let its = put_here (edge-at e) in
          record {
            was_free = edge_free;
            leads_to = rw its;
            is_sound = rw its edge-sound;
            unlike = λ f l. unlike f (sym (ap deadened its) ∙ l);
          }

      go : AfterPut e k y (edge_at m k) (edge_at j k) → (edge_at j k ≡ edge_at m k) ⊎ NewEdge m j c k
      go (here q z) = inr (rw q new)
      go (elsewhere q z) = inl z

  child_growth : Growth m j c p es
  unfolding put_shape put_edge
  child_growth =
      let its = put_here (shape-at c) in
      record {
        same_limits = simp (length-put, laid.same_count);
        was_free = was_free_lem;
        other_shapes = λ k ne. put_elsewhere ne (shape-at k);
        is_sound = rw its new_sound;
        its_table = ap (λ (z : Shape). z.table) its;
        table = its-table;
        other_tables = λ k ne. table-at k ∙ laid.other_tables k ne;
        longer = laid.longer;
        not_unique = laid.not_unique;
        good = laid.good;
        edges = an_edge;
      }

  pub child-grown : Grown m n t (j, c)
  child-grown =
      let its = put_here (edge-at e) in
      record {
        table = p;
        stands = put_here (shape-at c);
        its_entries = rw (put_here (shape-at c), its-table) laid.stepped;
        its_step = rw (edge_to j c place e (rw its) only-edge, its, put_here (shape-at c)) (step_of_lem n t c);
        was_free = was_free_lem;
        keeps = growth_keeps m j sound c p es child_growth;
      }
