-- Document 01: "Sound means all of this", sentence by sentence and in its order.
-- Assumes nothing.
use Rattle.std.specs.Prelude.{Bool, true, ◌&&◌, ◌||◌, not, List, [], ◌∷◌, map, ℕ, ◌+◌, eqb, ltb, leb, length}
use Rattle.std.specs.Prelude.{if◌then◌else◌}
use Rattle.slot.specs.Attributes.{good_attributes, width, same_width}
use Rattle.store.specs.Lists.{numbered, keep, every, any, only_one, all, agree, zeros}
use Rattle.store.specs.Model.{Table, free, used, Model, free_shape, free_table, free_edge, shape_at, table_at}
use Rattle.store.specs.Layout.{limits_in, good_limits, good_header, shape_words, edge_words, tidy_tables, parse}
use Rattle.store.specs.declared.Shape.{Shape}
use Rattle.store.specs.declared.Entry.{Entry}
use Rattle.store.specs.declared.Edge.{Edge}
use Rattle.rules.specs.Numbers.{good_key}
use Rattle.rules.specs.Shapes.{has, attributes_in, pairs, shared, unique, is_root, is_child, table_of}
use Rattle.rules.specs.Shapes.{entries, unique_state}
use Rattle.rules.specs.Steps.{Step, may_step, step_entries, step_prototype, prototype_step_kind, step_of_kind}
use Rattle.rules.specs.Steps.{property_edge_kind, prototype_edge_kind, edge_kind, alike}

-- ## Each record in use

-- A test of each shape in use, with its place.
abbrev pub each_shape : Model → (ℕ → Shape → Bool) → Bool
each_shape m test = every (λ p. free_shape p.1 || test p.0 p.1) (numbered 1 m.shapes)

-- A test of each shared shape but the roots, with its place and its previous.
abbrev pub each_child : Model → (ℕ → (previous child : Shape) → Bool) → Bool
each_child m test = each_shape m (λ n s. not (is_child s) || test n (shape_at m s.previous) s)

abbrev pub on_table : (ℕ → List Entry → Bool) → ℕ × Table → Bool
on_table test (t, free) = true
on_table test (t, used es) = test t es

-- A test of each table in use, with its place.
abbrev pub each_table : Model → (ℕ → List Entry → Bool) → Bool
each_table m test = every (on_table test) (numbered 1 m.tables)

abbrev pub each_edge : Model → (Edge → Bool) → Bool
each_edge m test = every (λ e. free_edge e || test e) m.edges

-- ## The sentences

-- "States, kinds and places are in range;"
abbrev pub shape_ranged : (S T : ℕ) → Shape → Bool
shape_ranged S T s =
    leb s.state unique_state && leb s.step prototype_step_kind && leb s.previous S && leb s.table T

abbrev pub edge_ranged : (S : ℕ) → Edge → Bool
edge_ranged S e = leb e.kind prototype_edge_kind && leb e.parent S && leb e.child S

unfoldable pub in_range : Model → Bool
in_range m =
    let S = length m.shapes in
    let T = length m.tables in
    each_shape m (λ n s. shape_ranged S T s) && each_edge m (edge_ranged S)

-- "a shape's table is in use;"
unfoldable pub table_in_use : Model → Bool
table_in_use m = each_shape m (λ n s. not (free_table (table_at m s.table)))

-- "free records and unused entries are zero." (Tables and their entries: `tidy_tables`.)
unfoldable pub free_zero : Model → Bool
free_zero m =
    every (λ s. not (free_shape s) || zeros (shape_words s)) m.shapes
    && every (λ e. not (free_edge e) || zeros (edge_words e)) m.edges

abbrev pub distinct : List ℕ → Bool
distinct [] = true
distinct (k ∷ ks) = not (any (eqb k) ks) && distinct ks

-- The first slot index is n, and each next one n and the widths before it.
abbrev pub slots_from : ℕ → List Entry → Bool
slots_from n [] = true
slots_from n (e ∷ es) = eqb e.slot.0 n && slots_from (n + width e.attributes) es

-- "Each table has distinct good keys, attributes up to 31, and each slot index equal to the sum of the widths
-- before it."
abbrev pub good_entries : List Entry → Bool
good_entries es =
    distinct (map (λ e. e.key) es)
    && every (λ e. good_key e.key && good_attributes e.attributes) es
    && slots_from 0 es

unfoldable pub tables_good : Model → Bool
tables_good m = each_table m (λ t es. good_entries es)

abbrev pub uses : ℕ → Shape → Bool
uses t s = not (free_shape s) && eqb s.table t

abbrev pub users : Model → ℕ → ℕ
users m t = length (keep (uses t) m.shapes)

-- "Each table in use is used by a shape; a unique shape's table by it alone."
unfoldable pub tables_used : Model → Bool
tables_used m =
    each_table m (λ t es. leb 1 (users m t))
    && each_shape m (λ n s. not (unique s) || eqb (users m s.table) 1)

-- "A shape's property count is at most its table's length, equal for a unique."
unfoldable pub counts_fit : Model → Bool
counts_fit m =
    each_shape m (λ n s.
    let long = length (table_of m s) in
    if unique s then eqb s.properties long else leb s.properties long)

-- "A root has previous, kind, both counts and prototype 0."
unfoldable pub roots_zero : Model → Bool
roots_zero m =
    each_shape m (λ n s.
    not (is_root s) || zeros (s.step ∷ s.transitions ∷ s.properties ∷ s.prototype ∷ []))

abbrev pub edges_to : Model → ℕ → List Edge
edges_to m n = keep (λ e. eqb e.child n) m.edges

-- "Any other shared shape has a shared previous with one transition less, and is the child of exactly one edge,
-- whose parent is that previous."
unfoldable pub children_linked : Model → Bool
children_linked m =
    each_child m (λ n p s.
    shared p
    && eqb s.transitions (p.transitions + 1)
    && only_one (λ e. eqb e.parent s.previous) (edges_to m n))

-- The step that an edge names, with its child's step kind.
abbrev pub step_of : (kind : ℕ) → Edge → Step
step_of kind e = step_of_kind kind e.label e.attributes

-- The step leads from keys es and prototype p to keys fs and prototype q.
abbrev pub leads : Step → (es : List Entry) (p : ℕ) (fs : List Entry) (q : ℕ) → Bool
leads t es p fs q =
    may_step t es && agree (pairs fs) (pairs (step_entries t es)) && eqb q (step_prototype t p)

-- "Its first keys with their attributes, and its prototype, are the previous's with that step applied".
unfoldable pub children_stepped : Model → Bool
children_stepped m =
    each_child m (λ n p s.
    every (λ e. leads (step_of s.step e) (entries m p) p.prototype (entries m s) s.prototype)
    (edges_to m n))

abbrev pub no_two_alike : List Edge → Bool
no_two_alike [] = true
no_two_alike (e ∷ es) = (free_edge e || not (any (alike e) es)) && no_two_alike es

-- "No two edges agree in parent, kind, key or prototype, and attributes."
unfoldable pub edges_differ : Model → Bool
edges_differ m = no_two_alike m.edges

-- "a property edge's key is good, its attributes up to 31 and of equal width where the parent holds that key;
-- a prototype edge has any prototype and attributes 0"
abbrev pub good_label : List Entry → Edge → Bool
good_label es e =
    if eqb e.kind property_edge_kind
    then good_key e.label
    && good_attributes e.attributes
    && (not (has e.label es) || same_width (attributes_in e.label es) e.attributes)
    else eqb e.attributes 0

-- "an edge's child is 0 or a shared shape whose previous is that parent and whose step kind fits"
abbrev pub good_child : Shape → Edge → Bool
good_child s e =
    eqb e.child 0
    || shared s
    && eqb s.previous e.parent
    && eqb (edge_kind (step_of s.step e)) e.kind

-- "An edge's parent is shared;" and the two before.
unfoldable pub edges_good : Model → Bool
edges_good m =
    each_edge m (λ e.
    let p = shape_at m e.parent in
    shared p && good_label (entries m p) e && good_child (shape_at m e.child) e)

-- "Transition counts are at most 1,024, and 1,024 has no holds."
unfoldable pub transitions_limited : Model → Bool
transitions_limited m =
    each_shape m (λ n s. leb s.transitions 1024 && (ltb s.transitions 1024 || eqb s.holds 0))

-- "Holds are at most 65,535, counters at most 255."
unfoldable pub holds_limited : Model → Bool
holds_limited m =
    each_shape m (λ n s.
    leb s.holds 65535 && leb s.counters.property 255 && leb s.counters.prototype 255)

-- "A unique shape has 0 in previous, kind, transition count and counters."
unfoldable pub uniques_zero : Model → Bool
uniques_zero m =
    each_shape m (λ n s.
    not (unique s)
    || zeros (s.previous ∷ s.step ∷ s.transitions ∷ s.counters.property ∷ s.counters.prototype ∷ []))

-- ## Sound

abbrev pub model_sentences : Model → List Bool
model_sentences m =
    in_range m
    ∷ table_in_use m
    ∷ free_zero m
    ∷ tables_good m
    ∷ tables_used m
    ∷ counts_fit m
    ∷ roots_zero m
    ∷ children_linked m
    ∷ children_stepped m
    ∷ edges_differ m
    ∷ edges_good m
    ∷ transitions_limited m
    ∷ holds_limited m
    ∷ uniques_zero m
    ∷ []

unfoldable pub sound_model : Model → Bool
sound_model m = all (model_sentences m)

-- What only the words can tell: the limits, "The header agrees with the slice's length", "unused entries are zero".
abbrev pub word_sentences : List ℕ → List Bool
word_sentences ws = good_limits (limits_in ws) ∷ good_header ws ∷ tidy_tables ws ∷ []

unfoldable pub sound_words : List ℕ → Bool
sound_words ws = all (word_sentences ws)

unfoldable pub sound : List ℕ → Bool
sound ws = sound_words ws && sound_model (parse ws)
