-- Document 01 makes the child, looks at the counter, adds the edge; `make` sees to the counter first.
-- The two give the same.
-- Assumes nothing.
use Rattle.std.specs.Prelude.{Bool, true, false, ◌&&◌, List, ◌≢◌, ◌≡◌, length}
use Rattle.std.proofs.Math.Bool.{not, true≢false}
use Rattle.std.proofs.Math.Path.{refl, ap}
use Rattle.std.proofs.Common.{sym, ◌∙◌}
use Prim.Native.Nat.{ℕ, ◌+◌}
use Rattle.std.proofs.Math.Dec.{eqb}
use Rattle.std.specs.Prelude.{if◌then◌else◌}
use Rattle.store.specs.Lists.{at, put}
use Rattle.store.specs.Model.{used, Model, no_shape, free_shape, free_table, free_edge, shape_at, table_at}
use Rattle.store.specs.Model.{put_shape, put_table, put_edge}
use Rattle.store.specs.PlaceLaws.{at_put_same, at_put_other, at-inside, put-put, lowest-put}
use Rattle.store.specs.declared.Counters.{Counters}
use Rattle.store.specs.declared.Shape.{Shape}
use Rattle.store.specs.declared.Entry.{Entry}
use Rattle.store.specs.declared.Edge.{Edge}
use Rattle.rules.specs.declared.Refusal.TheVariants.{KeysFull, ShapesFull, TablesFull, EdgesFull}
use Rattle.rules.specs.Refusals.{Got, ok, refused, ◌>>=◌, ◌>>◌, refuse, place}
use Rattle.rules.specs.Shapes.{has, appended, configured, table_of, entries, with_counters}
use Rattle.rules.specs.Steps.{Step, insert, configure, prototype, edge_of, edge_kind, added, prune}
use Rattle.rules.specs.Steps.{counter, set_counter, put_counter, pruned, counted, Placed, copy_to}
use Rattle.rules.specs.Steps.{child_table, child_shape, grow, make}
use Rattle.rules.proofs.FirstLaws.{place_given}

-- ## The order of document 01

-- The child, without its edge.
abbrev pub make_child : Model → (parent : ℕ) → Step → Got Placed
make_child m n t = let s = shape_at m n in do
  refuse KeysFull (eqb (added t) 1 && eqb s.properties m.K)
  c ← place ShapesFull free_shape m.shapes
  (m₁, table) ← child_table m s t
  ok (put_shape m₁ c (child_shape n s t table), c)

-- The edge that leads to it.
abbrev pub add_edge : Model → (parent : ℕ) → Step → (child : ℕ) → Got Placed
add_edge m n t c = do
  e ← place EdgesFull free_edge m.edges
  ok (put_edge m e (edge_of n t c), c)

-- "Then a child and an edge are made. Before the edge is added the counter's old value is looked at".
unfoldable pub make_in_order : Model → (parent : ℕ) → Step → Got Placed
make_in_order m n t = do
  (m₁, c) ← make_child m n t
  add_edge (counted m₁ n (edge_kind t)) n t c

-- ## What the counter's step does

-- The counter of a kind, raised, or 0 where it was full.
abbrev raised : (full : Bool) (kind : ℕ) → Counters → Counters
raised full kind c = set_counter kind (if full then 0 else counter kind c + 1) c

-- The same tables among other shapes and edges.
abbrev among : List Shape → List Edge → Model → Model
among ss es m = record { K = m.K; shapes = ss; tables = m.tables; edges = es }

-- Both ways of the counter's step, by whether the counter was full.
abbrev counted_as : (full : Bool) → Model → (place kind : ℕ) → Model
counted_as full m n kind =
    let s = shape_at m n in
    among
    (put m.shapes n (with_counters s (raised full kind s.counters)))
    (if full then prune n kind m.edges else m.edges)
    m

counted_is : (m : Model) (n kind : ℕ)
    → counted m n kind ≡ counted_as (eqb (counter kind (shape_at m n).counters) 255) m n kind
unfolding counted pruned shape_at put_shape
counted_is m n kind = go (eqb (counter kind (shape_at m n).counters) 255)
  where
    go : (b : Bool)
        → (if b then pruned m n kind else put_counter m n kind (counter kind (shape_at m n).counters + 1))
        ≡ counted_as b m n kind
    go true = refl
    go false = refl

-- ## The table of a child reads neither counters, other shapes nor edges

abbrev moved : List Shape → List Edge → Placed → Got Placed
moved ss fs (m, p) = ok (among ss fs m, p)

module _ (m : Model) (ss : List Shape) (fs : List Edge) where
  copy_among : (es : List Entry) → copy_to (among ss fs m) es ≡ (copy_to m es >>= moved ss fs)
  unfolding put_table
  copy_among es = go (place TablesFull free_table m.tables)
    where
      written : Model → ℕ → Got Placed
      written m t = ok (put_table m t (used es), t)

      go : (p : Got ℕ) → (p >>= written (among ss fs m)) ≡ ((p >>= written m) >>= moved ss fs)
      go (ok t) = refl
      go (refused r) = refl

  table-among : (s : Shape) (c : Counters) (t : Step)
      → child_table (among ss fs m) (with_counters s c) t ≡ (child_table m s t >>= moved ss fs)
  unfolding child_table table_at put_table
  table-among s c (insert k a) = go (eqb s.properties (length (table_of m s)) && not (has k (table_of m s)))
    where
      longer : Placed
      longer = (put_table m s.table (used (appended (table_of m s) k a)), s.table)

      copy : Model → Got Placed
      copy m' = copy_to m' (appended (entries m s) k a)

      go : (b : Bool)
          → (if b then moved ss fs longer else copy (among ss fs m))
          ≡ ((if b then ok longer else copy m) >>= moved ss fs)
      go true = refl
      go false = copy_among (appended (entries m s) k a)
  table-among s c (configure k a) = copy_among (configured (table_of m s) k a)
  table-among s c (prototype p) = refl

-- ## The two orders

module _ (m : Model) (n : ℕ) (t : Step) (in_use : free_shape (shape_at m n) ≡ false) where
  -- The parent, and the counters, shapes and edges that the counter's step leaves.
  abbrev s : Shape
  s = shape_at m n

  abbrev full : Bool
  full = eqb (counter (edge_kind t) s.counters) 255

  abbrev counters : Counters
  counters = raised full (edge_kind t) s.counters

  abbrev ss : List Shape
  ss = put m.shapes n (with_counters s counters)

  abbrev fs : List Edge
  fs = if full then prune n (edge_kind t) m.edges else m.edges

  -- The child is put in another place, so the two puts can change places.
  counted-after : (c : ℕ) (x : Shape) (m₁ : Model) → n ≢ c
      → counted (put_shape (among m.shapes m.edges m₁) c x) n (edge_kind t)
      ≡ put_shape (among ss fs m₁) c x
  unfolding shape_at put_shape
  counted-after c x m₁ h =
      counted_is (put_shape (among m.shapes m.edges m₁) c x) n (edge_kind t)
      ∙ rw (at_put_other m.shapes c n x no_shape h, put-put m.shapes c n x _ (λ e. h (sym e)))

  -- The child's place was free, and the parent's was not.
  apart : (c : ℕ) → place ShapesFull free_shape m.shapes ≡ ok c → n ≢ c
  unfolding shape_at
  apart c e q =
      let passes = ((place_given free_shape no_shape ShapesFull m.shapes c).0 e).passes in
      true≢false (sym passes ∙ ap (λ (k : ℕ). free_shape (at m.shapes k no_shape)) (sym q) ∙ in_use)

  abbrev child : ℕ → Placed → Placed
  child c (m₁, table) = (put_shape m₁ c (child_shape n s t table), c)

  abbrev edge_last : Placed → Got Placed
  edge_last (m₁, c) = add_edge (counted m₁ n (edge_kind t)) n t c

  -- Both orders, over what the refusals, the place and the table come to.
  same_order : (event : Bool) (p : Got ℕ) (q : Got Placed) → ((c : ℕ) → p ≡ ok c → n ≢ c)
      → (refuse KeysFull event >> (p >>= λ c. (q >>= moved m.shapes m.edges >>= λ x. ok (child c x)))
      >>= edge_last)
      ≡ (refuse KeysFull event >> (p >>= λ c. (q >>= moved ss fs >>= λ x. add_edge (child c x).0 n t c)))
  same_order true p q h = refl
  same_order false (refused r) q h = refl
  same_order false (ok c) (refused r) h = refl
  same_order false (ok c) (ok (m₁, table)) h =
      ap (λ (k : Model). add_edge k n t c) (counted-after c (child_shape n s t table) m₁ (h c refl))

  -- From a shape in use, document 01's order gives what `make` gives, refusals included.
  pub made_in_order : make_in_order m n t ≡ make m n t
  unfolding make_in_order make grow shape_at put_shape put_edge
  made_in_order =
      let event = eqb (added t) 1 && eqb s.properties m.K in
      let free = place ShapesFull free_shape m.shapes in
      let inside = at-inside free_shape m.shapes n no_shape refl in_use in
      rw (
        counted_is m n (edge_kind t),
        at_put_same m.shapes n (with_counters s counters) no_shape inside.0 inside.1,
        lowest-put free_shape 1 m.shapes n (with_counters s counters) no_shape refl,
        table-among m ss fs s counters t,
      )
      (ap
      (λ (q : Got Placed). refuse KeysFull event >> (free >>= λ c. (q >>= λ x. ok (child c x))) >>= edge_last)
      (table-among m m.shapes m.edges s s.counters t)
      ∙ same_order event free (child_table m s t) apart)
