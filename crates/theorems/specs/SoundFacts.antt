-- What the test of soundness says, as facts: `sound_facts`.
-- Assumes nothing.
use Rattle.std.proofs.Math.Bool.{true, not}
use Rattle.std.specs.Prelude.{false, ◌||◌, List, [], ◌∷◌, ◌⊎◌, ◌≢◌, ◌≡◌, ℕ, ◌+◌, ◌≤◌, eqb, ltb, length}
use Rattle.std.proofs.Common.{inl, inr, arith}
use Rattle.std.proofs.Math.Path.{refl}
use borrow.Author.Tests.{eqb-true, eqb-false, eq-eqb, ne_eqb, leb-true, le-leb}
use Rattle.std.proofs.Math.Dec.{leb}
use Rattle.store.specs.Lists.{every, zeros}
use Rattle.store.specs.Model.{free, used, Model, no_counters, no_shape, no_edge, free_shape, free_table, free_edge}
use Rattle.store.specs.Model.{shape_at, table_at, edge_at}
use Rattle.store.specs.Layout.{shape_words, room_for, fits}
use Rattle.store.specs.ListLaws.{Decided, and_both, or_then, not_then, Passed, all-passed, every-place}
use Rattle.store.specs.ListLaws.{either, zeros→replicate}
use Rattle.store.specs.declared.Shape.{Shape}
use Rattle.store.specs.declared.Entry.{Entry}
use Rattle.store.specs.declared.Edge.{Edge}
use Rattle.rules.specs.Shapes.{unique, is_root, is_child}
use Rattle.rules.specs.Steps.{edge_kind}
use Rattle.rules.specs.Sound.{each_table, in_range, free_zero, tables_good, users}
use Rattle.rules.specs.Sound.{tables_used, roots_zero, children_linked, step_of, children_stepped}
use Rattle.rules.specs.Sound.{edges_differ, good_child, edges_good, transitions_limited, holds_limited}
use Rattle.rules.specs.Sound.{uniques_zero, model_sentences, sound_model}
use Rattle.theorems.specs.Facts.{Used, RootZero, UniqueZero, GoodWords, InLimits, ChildSound, User}
use Rattle.theorems.specs.Facts.{GoodTable, LeadsTo, EdgeSound, Alike, Sound, used_place, used_table}
use Rattle.rules.specs.InUse.{each-shape, each-table, each-edge, shape-ranges, edge-ranges, table_in_use_lem}
use Rattle.rules.specs.InUse.{count_fits_lem}
use Rattle.theorems.specs.TestsSay.{zero-shape, zero-edge, a_user}
use Rattle.theorems.specs.TestsSay.{one_user, one-edge, differ_places}

-- ## A shape's own words

state_is : (n : ℕ) → n ≤ 2 → eqb n 0 ≡ false → (eqb n 1 ≡ true) ⊎ (eqb n 2 ≡ true)
state_is n l u = go (either (eqb n 1))
  where
    go : Decided (eqb n 1) → (eqb n 1 ≡ true) ⊎ (eqb n 2 ≡ true)
    go (inl e) = inl e
    go (inr e) =
        let no0 = eqb-false n 0 u in
        let no1 = eqb-false n 1 e in
        inr (eq-eqb n 2 (omega arith))

root-zero : (s : Shape)
    → zeros (s.step ∷ s.transitions ∷ s.properties ∷ s.prototype ∷ []) ≡ true → RootZero s
root-zero s e =
    let z = zeros→replicate (s.step ∷ s.transitions ∷ s.properties ∷ s.prototype ∷ []) e in
    record { step = cc; transitions = cc; properties = cc; prototype = cc }

abbrev unique-words : Shape → List ℕ
unique-words s =
    s.previous ∷ s.step ∷ s.transitions ∷ s.counters.property ∷ s.counters.prototype ∷ []

unique-zero : (s : Shape) → zeros (unique-words s) ≡ true → UniqueZero s × (s.counters ≡ no_counters)
unique-zero s e =
    let z = zeros→replicate (unique-words s) e in
    let p : s.counters.property ≡ 0 = cc in
    let q : s.counters.prototype ≡ 0 = cc in
    (record { previous = cc; step = cc; transitions = cc }, λ d. record { property = p d; prototype = q d })

-- ## From the test to the facts

module _ (m : Model) where
  -- What each sentence says of a shape in use.
  words_say : in_range m ≡ true → roots_zero m ≡ true → transitions_limited m ≡ true → uniques_zero m ≡ true
      → (n : ℕ) → Used m n → GoodWords (shape_at m n)
  unfolding roots_zero transitions_limited uniques_zero
  words_say range roots few uniques n u =
      let s = shape_at m n in
      let ranges = shape-ranges m range n u in
      record {
        state = state_is s.state ranges.state u;
        step = ranges.step;
        transitions = leb-true s.transitions 1024 (and_both _ (each-shape m _ few n u)).0;
        root = λ r. root-zero s (not_then (is_root s) (each-shape m _ roots n u) r);
        unique = λ r. (unique-zero s (not_then (unique s) (each-shape m _ uniques n u) r)).0;
      }

  limits_say : transitions_limited m ≡ true → holds_limited m ≡ true → uniques_zero m ≡ true
      → (n : ℕ) → Used m n → InLimits (shape_at m n)
  unfolding transitions_limited holds_limited uniques_zero
  limits_say few held uniques n u =
      let s = shape_at m n in
      let (h, prototype) = and_both _ (each-shape m _ held n u) in
      let (holds, property) = and_both _ h in
      let unheld = (and_both (leb s.transitions 1024) (each-shape m _ few n u)).1 in
      record {
        unheld = λ e. eqb-true s.holds 0 (or_then (ltb s.transitions 1024) unheld (rw e));
        holds = leb-true s.holds 65535 holds;
        property = leb-true s.counters.property 255 property;
        prototype = leb-true s.counters.prototype 255 prototype;
        unique = λ r. (unique-zero s (not_then (unique s) (each-shape m _ uniques n u) r)).1;
      }

  child_says : children_linked m ≡ true → children_stepped m ≡ true → (n : ℕ) → Used m n
      → is_child (shape_at m n) ≡ true → ChildSound m n (shape_at m n) (shape_at m (shape_at m n).previous)
  unfolding children_linked children_stepped
  child_says linked stepped n u c =
      let s = shape_at m n in
      let p = shape_at m s.previous in
      let (l, one) = and_both _ (not_then (is_child s) (each-shape m _ linked n u) c) in
      let (is_shared, more) = and_both _ l in
      let o = one-edge m n (used_place m n u) _ one in
      let step = not_then (is_child s) (each-shape m _ stepped n u) c in
      record {
        previous_shared = is_shared;
        one_more = eqb-true s.transitions (p.transitions + 1) more;
        edge = o.edge;
        leads_here = o.leads_here;
        only_edge = o.only_edge;
        from_previous = eqb-true (edge_at m o.edge).parent s.previous o.passes;
        stepped = (and_both _ (rw o.alone at step)).0;
      }

  unique_says : tables_used m ≡ true → (n : ℕ) → Used m n → unique (shape_at m n) ≡ true
      → (k : ℕ) → Used m k → (shape_at m k).table ≡ (shape_at m n).table → k ≡ n
  unfolding tables_used
  unique_says e n u r =
      let (_, uniques) = and_both (each_table m (λ t es. leb 1 (users m t))) e in
      let one = not_then (unique (shape_at m n)) (each-shape m _ uniques n u) r in
      one_user m n u (eqb-true (users m (shape_at m n).table) 1 one)

  users_say : tables_used m ≡ true → (t : ℕ) → free_table (table_at m t) ≡ false → User m t
  unfolding tables_used
  users_say e t u =
      let enough = each-table m _ (and_both _ e).0 t _ (used_table (table_at m t) u) in
      a_user m t (leb-true 1 (users m t) enough)

  leads-to : (e : Edge) (c : Shape) → good_child c e ≡ true → e.child ≢ 0 → LeadsTo e c
  leads-to e c h ne =
      let (p, kind) = and_both _ (or_then (eqb e.child 0) h (ne_eqb e.child 0 ne)) in
      let (is_shared, previous) = and_both _ p in
      record {
        is_shared = is_shared;
        previous = eqb-true c.previous e.parent previous;
        kind_fits = eqb-true (edge_kind (step_of c.step e)) e.kind kind;
      }

  edges_say : in_range m ≡ true → edges_good m ≡ true
      → (e : ℕ) → free_edge (edge_at m e) ≡ false → EdgeSound m (edge_at m e)
  unfolding edges_good
  edges_say range good e u =
      let (p, child) = and_both _ (each-edge m _ good e u) in
      let (parent, label) = and_both _ p in
      record {
        parent_shared = parent;
        kind = (edge-ranges m range e u).kind;
        label = label;
        child = leads-to (edge_at m e) (shape_at m (edge_at m e).child) child;
      }

  free_shapes_say : free_zero m ≡ true → (n : ℕ) → free_shape (shape_at m n) ≡ true → shape_at m n ≡ no_shape
  unfolding free_zero shape_at
  free_shapes_say e n f =
      let z = every-place no_shape _ m.shapes refl (and_both _ e).0 n in
      zero-shape (shape_at m n) (not_then (free_shape (shape_at m n)) z f)

  free_edges_say : free_zero m ≡ true → (e : ℕ) → free_edge (edge_at m e) ≡ true → edge_at m e ≡ no_edge
  unfolding free_zero edge_at
  free_edges_say h e f =
      let (_, edges) = and_both (every (λ s. not (free_shape s) || zeros (shape_words s)) m.shapes) h in
      let z = every-place no_edge _ m.edges refl edges e in
      zero-edge (edge_at m e) (not_then (free_edge (edge_at m e)) z f)

  tables_say : fits m ≡ true → tables_good m ≡ true
      → (t : ℕ) (es : List Entry) → table_at m t ≡ used es → GoodTable m.K es
  unfolding fits tables_good table_at
  tables_say room good t es q =
      let none : room_for m.K free ≡ true = le-leb 0 m.K (omega arith) in
      let fit = rw q at (every-place free (room_for m.K) m.tables none room t) in
      record { good = each-table m _ good t es q; room = leb-true (length es) m.K fit }

  differ_say : edges_differ m ≡ true
      → (e f : ℕ) → free_edge (edge_at m e) ≡ false → Alike (edge_at m e) (edge_at m f) → e ≡ f
  unfolding edges_differ edge_at
  differ_say h = differ_places m.edges h

  pub sound_facts : fits m ≡ true → sound_model m ≡ true → Sound m
  unfolding sound_model
  sound_facts room sound = go (all-passed (model_sentences m) sound)
    where
      go : Passed (model_sentences m) → Sound m
      go (
        range,
        (
          in_use,
          (
            none,
            (
              good,
              (
                its,
                (
                  counts,
                  (
                    roots,
                    (linked, (stepped, (differ, (edges_are, (few, (held, (uniques, _))))))),
                  ),
                ),
              ),
            ),
          ),
        ),
      ) =
          record {
            shapes = λ n u. record {
              words = words_say range roots few uniques n u;
              limits = limits_say few held uniques n u;
              table_used = table_in_use_lem m in_use n u;
              count_fits = (count_fits_lem m counts n u).0;
              unique_whole = (count_fits_lem m counts n u).1;
              unique_alone = unique_says its n u;
              child = child_says linked stepped n u;
            };
            tables = tables_say room good;
            users = users_say its;
            edges = edges_say range edges_are;
            not_alike = differ_say differ;
            free_shapes = free_shapes_say none;
            free_edges = free_edges_say none;
          }
