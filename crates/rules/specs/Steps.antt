-- Document 01, "Trails and steps": shared shapes.
-- Assumes nothing.
use Rattle.std.specs.Prelude.{Bool, true, ◌&&◌, ◌||◌, not, List, [], ◌∷◌, ◌++◌, map, ℕ, zero, suc, ◌+◌, eqb, length}
use Rattle.std.proofs.Math.Option.{Option, none, some}
use Rattle.std.specs.Prelude.{if◌then◌else◌}
use Rattle.slot.specs.Attributes.{same_width}
use Rattle.store.specs.Lists.{any, first, last}
use Rattle.store.specs.Model.{Model, used, no_entry, no_counters, no_edge, free_shape, free_table, free_edge}
use Rattle.store.specs.Model.{shape_at, put_shape, put_table, put_edge}
use Rattle.store.specs.declared.Counters.{Counters}
use Rattle.store.specs.declared.Shape.{Shape}
use Rattle.store.specs.declared.Entry.{Entry}
use Rattle.store.specs.declared.Edge.{Edge}
use Rattle.rules.specs.declared.Refusal.TheVariants.{KeysFull, ShapesFull, TablesFull, EdgesFull}
use Rattle.rules.specs.Refusals.{Got, ok, ◌>>=◌, ◌>>◌, refuse, place}
use Rattle.rules.specs.Shapes.{is_key, has, attributes_in, appended, configured, table_of, entries}
use Rattle.rules.specs.Shapes.{shared_state, unique_shape, with_counters}

-- ## A step

pub data Step : Type 0 where
  insert : (key attributes : ℕ) → Step
  configure : (key attributes : ℕ) → Step
  prototype : (to : ℕ) → Step

-- "step kind (0 insert, 1 configure, 2 prototype)"
abbrev pub insert_step_kind : ℕ
insert_step_kind = 0

abbrev pub configure_step_kind : ℕ
configure_step_kind = 1

abbrev pub prototype_step_kind : ℕ
prototype_step_kind = 2

abbrev pub step_kind : Step → ℕ
step_kind (insert k a) = insert_step_kind
step_kind (configure k a) = configure_step_kind
step_kind (prototype p) = prototype_step_kind

-- The step of a kind, with a key and attributes or with a prototype.
abbrev pub step_of_kind : (kind label attributes : ℕ) → Step
step_of_kind kind label a =
    if eqb kind insert_step_kind then insert label a
    else if eqb kind configure_step_kind then configure label a
    else prototype label

-- "Edge, 5 words: parent, kind (0 property, 1 prototype), key or prototype, attributes (0 for prototype),
-- child (0 dead)."
abbrev pub property_edge_kind : ℕ
property_edge_kind = 0

abbrev pub prototype_edge_kind : ℕ
prototype_edge_kind = 1

abbrev pub edge_kind : Step → ℕ
edge_kind (insert k a) = property_edge_kind
edge_kind (configure k a) = property_edge_kind
edge_kind (prototype p) = prototype_edge_kind

abbrev pub edge_label : Step → ℕ
edge_label (insert k a) = k
edge_label (configure k a) = k
edge_label (prototype p) = p

abbrev pub edge_attributes : Step → ℕ
edge_attributes (insert k a) = a
edge_attributes (configure k a) = a
edge_attributes (prototype p) = 0

abbrev pub edge_of : (parent : ℕ) → Step → (child : ℕ) → Edge
edge_of n t c =
    record {
      parent = n;
      kind = edge_kind t;
      label = edge_label t;
      attributes = edge_attributes t;
      child = c;
    }

-- "insert adds an absent key at the end, configure sets a held key's attributes at equal width,
-- prototype changes only the prototype"
abbrev pub may_step : Step → List Entry → Bool
may_step (insert k a) es = not (has k es)
may_step (configure k a) es = has k es && same_width (attributes_in k es) a
may_step (prototype p) es = true

abbrev pub step_entries : Step → List Entry → List Entry
step_entries (insert k a) es = appended es k a
step_entries (configure k a) es = configured es k a
step_entries (prototype p) es = es

abbrev pub step_prototype : Step → ℕ → ℕ
step_prototype (insert k a) p = p
step_prototype (configure k a) p = p
step_prototype (prototype q) p = q

-- How many keys a step adds.
abbrev pub added : Step → ℕ
added (insert k a) = 1
added (configure k a) = 0
added (prototype p) = 0

-- ## Edges and counters of a shape

-- They agree in parent, kind, key or prototype, and attributes.
abbrev pub alike : Edge → Edge → Bool
alike e f =
    eqb e.parent f.parent
    && eqb e.kind f.kind
    && eqb e.label f.label
    && eqb e.attributes f.attributes

abbrev pub dead : (parent kind : ℕ) → Edge → Bool
dead n kind e = eqb e.parent n && eqb e.kind kind && eqb e.child 0

abbrev pub prune : (parent kind : ℕ) → List Edge → List Edge
prune n kind es = map (λ e. if dead n kind e then no_edge else e) es

abbrev pub counter : (kind : ℕ) → Counters → ℕ
counter kind c = if eqb kind property_edge_kind then c.property else c.prototype

abbrev pub set_counter : (kind : ℕ) → ℕ → Counters → Counters
set_counter kind n c =
    if eqb kind property_edge_kind
    then record { property = n; prototype = c.prototype }
    else record { property = c.property; prototype = n }

abbrev pub put_counter : Model → (place kind value : ℕ) → Model
put_counter m n kind v = let s = shape_at m n in put_shape m n (with_counters s (set_counter kind v s.counters))

abbrev pub with_edges : Model → List Edge → Model
with_edges m es = record { K = m.K; shapes = m.shapes; tables = m.tables; edges = es }

-- "prunes that shape's dead edges of the same kind and sets that counter to 0"
unfoldable pub pruned : Model → (place kind : ℕ) → Model
pruned m n kind = put_counter (with_edges m (prune n kind m.edges)) n kind 0

-- "Before the edge is added the counter's old value is looked at: at 255 dead edges of that kind are pruned,
-- and the counter wraps from 255 to 0; otherwise it goes up by one."
unfoldable pub counted : Model → (place kind : ℕ) → Model
counted m n kind =
    let old = counter kind (shape_at m n).counters in
    if eqb old 255 then pruned m n kind else put_counter m n kind (old + 1)

-- ## Tables

-- A model, and a place in it.
abbrev pub Placed : Type 0
Placed = Model × ℕ

abbrev pub copy_to : Model → List Entry → Got Placed
copy_to m es = do
  t ← place TablesFull free_table m.tables
  ok (put_table m t (used es), t)

-- "an insert appends to the parent's table if property count equals its length and the key is not in it;
-- otherwise the first entries are copied to a new table. Configure copies the whole table. Prototype shares it."
unfoldable pub child_table : Model → Shape → Step → Got Placed
child_table m s (insert k a) =
    let es = table_of m s in
    if eqb s.properties (length es) && not (has k es)
    then ok (put_table m s.table (used (appended es k a)), s.table)
    else copy_to m (appended (entries m s) k a)
child_table m s (configure k a) = copy_to m (configured (table_of m s) k a)
child_table m s (prototype p) = ok (m, s.table)

-- ## One step from a shape

abbrev pub child_shape : (parent : ℕ) → Shape → Step → (table : ℕ) → Shape
child_shape n s t table =
    record {
      state = shared_state;
      holds = 0;
      previous = n;
      step = step_kind t;
      transitions = s.transitions + 1;
      properties = s.properties + added t;
      prototype = step_prototype t s.prototype;
      table = table;
      counters = no_counters;
    }

-- "Then a child and an edge are made."
unfoldable pub grow : Model → ℕ → Step → Got Placed
grow m n t = let s = shape_at m n in do
  refuse KeysFull (eqb (added t) 1 && eqb s.properties m.K)
  c ← place ShapesFull free_shape m.shapes
  (m₁, table) ← child_table m s t
  e ← place EdgesFull free_edge m₁.edges
  ok (put_edge (put_shape m₁ c (child_shape n s t table)) e (edge_of n t c), c)

-- The counter is seen to before the edge is added, and nothing of the child reads it or the edges.
unfoldable pub make : Model → ℕ → Step → Got Placed
make m n t = grow (counted m n (edge_kind t)) n t

-- "A dead edge first prunes"; "a live edge for it gives the existing child, touching no counter".
abbrev pub along : Option Edge → Model → ℕ → Step → Got Placed
along none m n t = make m n t
along (some e) m n t = if eqb e.child 0 then make (pruned m n (edge_kind t)) n t else ok (m, e.child)

unfoldable pub step : Model → ℕ → Step → Got Placed
step m n t = along (first (alike (edge_of n t 0)) m.edges) m n t

unfoldable pub steps : List Step → Model → ℕ → Got Placed
steps [] m n = ok (m, n)
steps (t ∷ ts) m n = do
  (m₁, c) ← step m n t
  steps ts m₁ c

-- ## Rollback before a held key

-- A shape's number, then its previous's, and so on to its root.
abbrev pub backward : (transitions : ℕ) → Model → ℕ → List ℕ
backward zero m n = n ∷ []
backward (suc count) m n = n ∷ backward count m (shape_at m n).previous

unfoldable pub chain : Model → ℕ → List ℕ
chain m n = backward (shape_at m n).transitions m n

abbrev pub prototype_step : Shape → Bool
prototype_step s = eqb s.step prototype_step_kind

abbrev pub last_of : Model → Shape → Entry
last_of m s = last (entries m s) no_entry

-- The shape was made by the insert step of the key.
abbrev pub inserts : Model → ℕ → Shape → Bool
inserts m k s = eqb s.step insert_step_kind && is_key k (last_of m s)

-- "prototype steps are passed, remembering the newest", which is met first.
abbrev pub remember : Shape → List Step → List Step
remember s [] = if prototype_step s then prototype s.prototype ∷ [] else []
remember s (newest ∷ older) = newest ∷ older

abbrev pub same_key : ℕ → Step → Bool
same_key k t = eqb (edge_label t) k

-- "Every other shape yields its last key (not the configured one) with its attributes there;
-- a key's first yield counts; the key itself is skipped."
abbrev pub yields : Model → ℕ → Shape → List Step → List Step
yields m k s ts =
    let e = last_of m s in
    if prototype_step s || is_key k e || any (same_key e.key) ts
    then ts
    else insert e.key e.attributes ∷ ts

pub record Back : Type 0 where
  pub base : ℕ
  -- the remembered prototype step, if there was one
  pub newest : List Step
  -- the oldest yield stands first: the keys' old order
  pub yielded : List Step

-- "go back to its insert step; the base is the shape before that"
abbrev pub back : Model → ℕ → List Shape → (newest yielded : List Step) → Back
back m k [] ps ts = record { base = 0; newest = ps; yielded = ts }
back m k (s ∷ ss) ps ts =
    if inserts m k s
    then record { base = s.previous; newest = ps; yielded = ts }
    else back m k ss (remember s ps) (yields m k s ts)

unfoldable pub rollback : Model → (place key : ℕ) → Back
rollback m n k = back m k (map (shape_at m) (chain m n)) [] []

-- ## Removal and change

-- "Removal: base, then the remembered prototype if there was one, then yielded keys in their old order."
unfoldable pub remove_shared : Model → (place key : ℕ) → Got Placed
remove_shared m n k =
    let b = rollback m n k in
    steps (b.newest ++ b.yielded) m b.base

-- "Change at equal width: one configure step .. Change of width: base, prototype, the key with new attributes,
-- then the yielded keys".
unfoldable pub change_shared : Model → (place key attributes : ℕ) → Got Placed
change_shared m n k a =
    let b = rollback m n k in
    if same_width (attributes_in k (entries m (shape_at m n))) a
    then step m n (configure k a)
    else steps (b.newest ++ insert k a ∷ b.yielded) m b.base

-- ## A new shape

-- A shape in the lowest free place, with a table of its own in the lowest free place.
unfoldable pub fresh : Model → (shape : (table : ℕ) → Shape) → List Entry → Got Placed
fresh m shape es = do
  n ← place ShapesFull free_shape m.shapes
  (m₁, t) ← copy_to m es
  ok (put_shape m₁ n (shape t), n)

-- "If the final result has 1,024 transitions, a new unique shape copies its keys and prototype and is returned;
-- the shared one stays, unheld."
unfoldable pub limited : Placed → Got Placed
limited (m, n) =
    let s = shape_at m n in
    if eqb s.transitions 1024
    then fresh m (unique_shape 0 s.properties s.prototype) (entries m s)
    else ok (m, n)

-- The limit is looked at when the steps are taken.
abbrev pub then_limit : Got Placed → Got Placed
then_limit rule = rule >>= limited
