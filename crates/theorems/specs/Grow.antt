-- A new shape in a free place, with a table that is new, longer or as it was, and perhaps a new edge to it.
-- Roots and uniques: `fresh_keeps`.
-- Assumes nothing.
use Rattle.std.specs.Prelude.{true, false, List, ◌⊎◌, ◌≢◌, ◌≡◌, refl, ℕ, ◌≤◌, length}
use Rattle.std.proofs.lemmas.Bool.{false≢true}
use Rattle.std.proofs.Math.Logic.{inl}
use Rattle.std.proofs.Common.{inr, sym, ◌∙◌, ap, arith}
use Rattle.std.proofs.Math.Seq.{take-length}
use Rattle.store.specs.Model.{Table, free, used, Model, limits_of, no_shape, free_shape, free_table}
use Rattle.store.specs.Model.{free_edge, shape_at, table_at, edge_at, put_shape, put_table}
use Rattle.store.specs.PlaceLaws.{length-put, same?, AfterPut, here, elsewhere, after-put, put_here}
use Rattle.store.specs.PlaceLaws.{put_elsewhere}
use Rattle.store.specs.ListLaws.{not-both}
use Rattle.store.specs.declared.Limits.{Limits}
use Rattle.store.specs.declared.Shape.{Shape}
use Rattle.store.specs.declared.Entry.{Entry}
use Rattle.store.specs.declared.Edge.{Edge}
use Rattle.rules.specs.declared.Refusal.TheVariants.{ShapesFull, TablesFull}
use Rattle.rules.specs.Shapes.{shared, unique, is_child, entries, root_shape, unique_shape}
use Rattle.rules.specs.Refusals.{ok, place}
use Rattle.rules.specs.Steps.{Placed, copy_to, fresh}
use Rattle.theorems.specs.Facts.{Used, GoodWords, InLimits, ShapeSound, User, GoodTable, EdgeSound}
use Rattle.rules.specs.InUse.{shared_used}
use Rattle.theorems.specs.Facts.{Alike, Sound, unique_used, used_place}
use Rattle.theorems.specs.Frame.{core, Longer, ShapeCase, EdgeCase, made, Change, Keeps, change_keeps}
use Rattle.theorems.specs.Frame.{longer_same, previous_used, same_edge, old-shape, same_user}
use Rattle.theorems.specs.Taken.{bind_passed, FreePlace, place-passed}

-- ## One shape more

-- A new edge to c, sound in j and like no other.
pub record NewEdge (m j : Model) (c e : ℕ) : Type 0 where
  pub was_free : free_edge (edge_at m e) ≡ true
  pub leads_to : (edge_at j e).child ≡ c
  pub is_sound : EdgeSound j (edge_at j e)
  pub unlike : (f : ℕ) → Alike (edge_at j e) (edge_at j f) → f ≡ e

-- j is m with a new shape at c, whose table at t has the entries es.
pub record Growth (m j : Model) (c t : ℕ) (es : List Entry) : Type 0 where
  pub same_limits : limits_of j ≡ limits_of m
  -- the shape
  pub was_free : free_shape (shape_at m c) ≡ true
  pub other_shapes : (k : ℕ) → k ≢ c → shape_at j k ≡ shape_at m k
  pub is_sound : ShapeSound j c (shape_at j c)
  -- its table, which is no unique's
  pub its_table : (shape_at j c).table ≡ t
  pub table : table_at j t ≡ used es
  pub other_tables : (k : ℕ) → k ≢ t → table_at j k ≡ table_at m k
  pub longer : Longer (table_at m t) (used es)
  pub not_unique : (k : ℕ) → Used m k → unique (shape_at m k) ≡ true → (shape_at m k).table ≢ t
  pub good : GoodTable m.K es
  -- the edges
  pub edges : (e : ℕ) → (edge_at j e ≡ edge_at m e) ⊎ NewEdge m j c e

module _ (m j : Model) (sound : Sound m) (c t : ℕ) (es : List Entry) (g : Growth m j c t es) where
  old_not_new : (k : ℕ) → Used m k → k ≢ c
  old_not_new k u e = not-both (rw (← e) at g.was_free) u

  old_same : (k : ℕ) → Used m k → shape_at j k ≡ shape_at m k
  old_same k u = g.other_shapes k (old_not_new k u)

  new_used : Used j c
  new_used = go g.is_sound.words.state
    where
      go : (shared (shape_at j c) ≡ true) ⊎ (unique (shape_at j c) ≡ true) → Used j c
      go (inl e) = shared_used (shape_at j c) e
      go (inr e) = unique_used (shape_at j c) e

  table_longer : (k : ℕ) → Longer (table_at m k) (table_at j k)
  table_longer k = go (same? k t)
    where
      go : (k ≡ t) ⊎ (k ≢ t) → Longer (table_at m k) (table_at j k)
      go (inl e) = rw (e, g.table) g.longer
      go (inr e) = rw (g.other_tables k e) (longer_same (table_at m k))

  a-shape : (k : ℕ) → ShapeCase m j (Used m) k
  a-shape k = go (same? k c)
    where
      go : (k ≡ c) ⊎ (k ≢ c) → ShapeCase m j (Used m) k
      go (inl e) = rw e (made g.is_sound (λ x u r q. g.not_unique x u r (sym q ∙ g.its_table)))
      go (inr e) = old-shape m j sound k (λ f. g.other_shapes k e)

  a-table : (k : ℕ) (fs : List Entry) → table_at j k ≡ used fs → (table_at m k ≡ used fs) ⊎ GoodTable j.K fs
  a-table k fs q = go (same? k t)
    where
      go : (k ≡ t) ⊎ (k ≢ t) → (table_at m k ≡ used fs) ⊎ GoodTable j.K fs
      go (inl e) =
          let same : fs ≡ es = cc g.table in
          inr (rw (same, ap (λ (l : Limits). l.K) g.same_limits) g.good)
      go (inr e) = inl (sym (g.other_tables k e) ∙ q)

  a_user : (k : ℕ) → free_table (table_at j k) ≡ false → User j k
  a_user k u = go (same? k t)
    where
      go : (k ≡ t) ⊎ (k ≢ t) → User j k
      go (inl e) = record { place = c; is_used = new_used; its = g.its_table ∙ sym e }
      go (inr e) = same_user m j sound (λ x v. ap core (old_same x v)) k (rw (g.other_tables k e) at u)

  an_edge : (e : ℕ) → EdgeCase m j (Used m) e
  an_edge e = go (g.edges e)
    where
      go : (edge_at j e ≡ edge_at m e) ⊎ NewEdge m j c e → EdgeCase m j (Used m) e
      go (inl q) = same_edge m j sound (λ k h. shared_used (shape_at m k) h) e q
      go (inr x) = made x.is_sound (λ u. old_not_new _ u x.leads_to) x.unlike

  edges_stay : (k : ℕ) → Used m k → (e : ℕ) → (edge_at m e).child ≡ k → edge_at j e ≡ edge_at m e
  edges_stay k u e h = go (g.edges e)
    where
      go : (edge_at j e ≡ edge_at m e) ⊎ NewEdge m j c e → edge_at j e ≡ edge_at m e
      go (inl q) = q
      go (inr x) =
          let none = ap (λ (y : Edge). y.child) (sound.free_edges e x.was_free) in
          absurd (used_place m k u (sym h ∙ none))

  growth_change : Change m j (Used m)
  growth_change =
      record {
        same_limits = g.same_limits;
        staying = λ k u. record {
          was_used = u;
          previous = previous_used m j sound k u;
          same_core = ap core (old_same k u);
          limits = rw (old_same k u) (sound.shapes k u).limits;
          longer = table_longer (shape_at m k).table;
          unique_table = λ r. g.other_tables (shape_at m k).table (g.not_unique k u r);
          edges = edges_stay k u;
        };
        shapes = a-shape;
        tables = a-table;
        users = a_user;
        edges = an_edge;
      }

  pub growth_keeps : Keeps m j (Used m)
  growth_keeps = change_keeps sound growth_change

-- ## A free table

pub free_longer : (a : Table) (es : List Entry) → free_table a ≡ true → Longer a (used es)
free_longer free es e = record { in_use = λ u. refl; begins = refl }
free_longer (used fs) es e = absurd (false≢true e)

-- No shape in use has a free table.
pub free_unused : (m : Model) → Sound m → (t : ℕ) → free_table (table_at m t) ≡ true
    → (k : ℕ) → Used m k → (shape_at m k).table ≢ t
free_unused m sound t f k u e = not-both (rw (← e) at f) (sound.shapes k u).table_used

-- A shape that counts a whole table has its entries.
pub whole-entries : (m : Model) (s : Shape) (es : List Entry) → table_at m s.table ≡ used es
    → s.properties ≡ length es → entries m s ≡ es
whole-entries m s es its count = rw (its, count) (take-length es)

-- ## A root or a unique, with a table of its own

-- What is said of the new shape, whatever table place t it gets.
pub record FreshShape (s : Shape) (t count : ℕ) : Type 0 where
  pub words : GoodWords s
  pub limits : InLimits s
  pub its_table : s.table ≡ t
  pub whole : s.properties ≡ count
  pub no_child : is_child s ≡ false

module _ (m : Model) (sound : Sound m) (n t : ℕ) (es : List Entry) (s : Shape)
    (shape_place : FreePlace free_shape no_shape m.shapes n)
    (table_place : FreePlace free_table free m.tables t)
    (fit : FreshShape s t (length es))
    (good : GoodTable m.K es) where
  abbrev more : Model
  more = put_shape (put_table m t (used es)) n s

  shape-at : (k : ℕ) → AfterPut n k s (shape_at m k) (shape_at more k)
  unfolding shape_at put_shape put_table
  shape-at k = after-put m.shapes n s no_shape shape_place.low shape_place.high k

  table-at : (k : ℕ) → AfterPut t k (used es) (table_at m k) (table_at more k)
  unfolding table_at put_shape put_table
  table-at k = after-put m.tables t (used es) free table_place.low table_place.high k

  unused : (k : ℕ) → Used m k → (shape_at m k).table ≢ t
  unfolding table_at
  unused = free_unused m sound t table_place.was_free

  alone : (k : ℕ) → Used more k → (shape_at more k).table ≡ t → k ≡ n
  alone k u q = go (shape-at k)
    where
      go : AfterPut n k s (shape_at m k) (shape_at more k) → k ≡ n
      go (here e x) = e
      go (elsewhere e x) = absurd (unused k (rw x at u) (rw x at q))

  its : table_at more s.table ≡ used es
  its = ap (table_at more) fit.its_table ∙ put_here (table-at t)

  new_entries : entries more (shape_at more n) ≡ es
  new_entries = rw (put_here (shape-at n)) (whole-entries more s es its fit.whole)

  new_sound : ShapeSound more n s
  new_sound =
      record {
        words = fit.words;
        limits = fit.limits;
        table_used = rw its;
        count_fits = rw its (omega (arith, fit.whole));
        unique_whole = λ r. rw its fit.whole;
        unique_alone = λ r k u q. alone k u (q ∙ fit.its_table);
        child = λ r. not-both r fit.no_child;
      }

  fresh_growth : Growth m more n t es
  unfolding shape_at table_at edge_at put_shape put_table
  fresh_growth =
      record {
        same_limits = simp length-put;
        was_free = shape_place.was_free;
        other_shapes = λ k ne. put_elsewhere ne (shape-at k);
        is_sound = rw (put_here (shape-at n)) new_sound;
        its_table = rw (put_here (shape-at n)) fit.its_table;
        table = put_here (table-at t);
        other_tables = λ k ne. put_elsewhere ne (table-at k);
        longer = free_longer (table_at m t) es table_place.was_free;
        not_unique = λ k u r. unused k u;
        good = good;
        edges = λ e. inl refl;
      }

-- What `fresh` gives: its place was free, its shape and table are new, all else is kept.
pub record Fresh (m : Model) (shape : ℕ → Shape) (es : List Entry) (y : Placed) : Type 0 where
  pub table : ℕ
  pub stands : shape_at y.0 y.1 ≡ shape table
  pub its_entries : entries y.0 (shape_at y.0 y.1) ≡ es
  pub was_free : free_shape (shape_at m y.1) ≡ true
  pub keeps : Keeps m y.0 (Used m)

pub fresh_keeps : (m : Model) → Sound m → (shape : ℕ → Shape) (es : List Entry)
    → ((t : ℕ) → FreshShape (shape t) t (length es)) → GoodTable m.K es
    → (y : Placed) → fresh m shape es ≡ ok y → Fresh m shape es y
unfolding fresh shape_at
fresh_keeps m sound shape es fit good y e =
    let a = bind_passed (place ShapesFull free_shape m.shapes) _ y e in
    let b = bind_passed (copy_to m es) _ y a.below in
    let d = bind_passed (place TablesFull free_table m.tables) _ b.result b.gave in
    let n = a.result in
    let t = d.result in
    let shape_place = place-passed ShapesFull free_shape no_shape m.shapes n a.gave in
    let table_place = place-passed TablesFull free_table free m.tables t d.gave in
    let same : (put_shape (put_table m t (used es)) n (shape t), n) ≡ y = cc (d.below, b.below) in
    let g = fresh_growth m sound n t es (shape t) shape_place table_place (fit t) good in
    rw (← same)
    record {
      table = t;
      stands = put_here (shape-at m sound n t es (shape t) shape_place table_place (fit t) good n);
      its_entries = new_entries m sound n t es (shape t) shape_place table_place (fit t) good;
      was_free = shape_place.was_free;
      keeps = growth_keeps m _ sound n t es g;
    }

-- ## The two kinds

pub fresh-root : (t : ℕ) → FreshShape (root_shape t) t 0
fresh-root t =
    record {
      words = record {
        state = inl refl;
        step = omega arith;
        transitions = omega arith;
        root = λ r. record { step = refl; transitions = refl; properties = refl; prototype = refl };
        unique = λ r. absurd (false≢true r);
      };
      limits = record {
        unheld = λ e. refl;
        holds = omega arith;
        property = omega arith;
        prototype = omega arith;
        unique = λ r. refl;
      };
      its_table = refl;
      whole = refl;
      no_child = refl;
    }

pub fresh-unique : (holds count prototype t : ℕ) → holds ≤ 65535
    → FreshShape (unique_shape holds count prototype t) t count
fresh-unique h count p t l =
    record {
      words = record {
        state = inr refl;
        step = omega arith;
        transitions = omega arith;
        root = λ r. absurd (false≢true r);
        unique = λ r. record { previous = refl; step = refl; transitions = refl };
      };
      limits = record {
        unheld = λ e. absurd (omega arith);
        holds = l;
        property = omega arith;
        prototype = omega arith;
        unique = λ r. refl;
      };
      its_table = refl;
      whole = refl;
      no_child = refl;
    }
