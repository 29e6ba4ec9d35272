-- The sentences of soundness about a shape's and an edge's own fields, each as a test of one record.
-- Assumes nothing.
use Rattle.std.specs.Prelude.{◌≡◌, Bool, true, ◌&&◌, ◌||◌, not, List, [], ◌∷◌, map, ◌≢◌, ℕ, eqb, ltb, leb, length}
use Rattle.std.specs.Prelude.{if◌then◌else◌}
use Rattle.slot.specs.Attributes.{good_attributes, same_width}
use Rattle.store.specs.Lists.{every, all, zeros}
use Rattle.store.specs.Model.{Model, free_shape, free_table, free_edge}
use Rattle.store.specs.Model.{shape_at, table_at}
use Rattle.store.specs.Layout.{shape_words, edge_words}
use Rattle.store.specs.declared.Shape.{Shape}
use Rattle.store.specs.declared.Entry.{Entry}
use Rattle.store.specs.declared.Edge.{Edge}
use Rattle.rules.specs.Shapes.{has, attributes_in, unique, is_root, shared, table_of, entries}
use Rattle.rules.specs.Steps.{configure_step_kind, property_edge_kind, prototype_edge_kind, edge_kind}
use Rattle.rules.specs.Sound.{shape_ranged, edge_ranged, in_range, table_in_use, tables_good, counts_fit, step_of}
use Rattle.rules.specs.Sound.{children_stepped, good_label, good_child}
use Rattle.rules.specs.InUse.{Tabled}

-- ## One record

abbrev pub shape_in_range : (S T : ℕ) → Shape → Bool
shape_in_range S T s = free_shape s || shape_ranged S T s

abbrev pub edge_in_range : (S : ℕ) → Edge → Bool
edge_in_range S e = free_edge e || edge_ranged S e

abbrev pub shape_zero_if_free : Shape → Bool
shape_zero_if_free s = not (free_shape s) || zeros (shape_words s)

abbrev pub edge_zero_if_free : Edge → Bool
edge_zero_if_free e = not (free_edge e) || zeros (edge_words e)

abbrev pub count_fits : (long : ℕ) → Shape → Bool
count_fits long s = if unique s then eqb s.properties long else leb s.properties long

abbrev pub root_zero : Shape → Bool
root_zero s = not (is_root s) || zeros (s.step ∷ s.transitions ∷ s.properties ∷ s.prototype ∷ [])

abbrev pub transitions_few : Shape → Bool
transitions_few s = leb s.transitions 1024 && (ltb s.transitions 1024 || eqb s.holds 0)

abbrev pub holds_few : Shape → Bool
holds_few s = leb s.holds 65535 && leb s.counters.property 255 && leb s.counters.prototype 255

abbrev pub unique_zero : Shape → Bool
unique_zero s =
    not (unique s)
    || zeros (s.previous ∷ s.step ∷ s.transitions ∷ s.counters.property ∷ s.counters.prototype ∷ [])

-- What a shape's own fields say, with the length of its table.
abbrev pub own_fields : (long : ℕ) → Shape → Bool
own_fields long s = count_fits long s && root_zero s && transitions_few s && holds_few s && unique_zero s

-- Every sentence about a shape in use.
abbrev pub shape_tests : Model → List (Shape → Bool)
shape_tests m =
    (λ s. not (free_table (table_at m s.table)))
    ∷ (λ s. count_fits (length (table_of m s)) s)
    ∷ root_zero
    ∷ transitions_few
    ∷ holds_few
    ∷ unique_zero
    ∷ []

abbrev pub good_shape : Model → Shape → Bool
good_shape m s = free_shape s || all (map (λ test. test s) (shape_tests m))

-- The attributes are of equal width where the key is held; what holds of an absent one, its user says.
abbrev pub width_fits : (absent : Bool) → (key attributes : ℕ) → List Entry → Bool
width_fits absent k a es = if has k es then same_width (attributes_in k es) a else absent

-- The same of a property edge that has a child.
abbrev pub LiveFits : List Entry → Edge → Type 0
LiveFits es e = e.child ≢ 0 → e.kind ≡ property_edge_kind → width_fits true e.label e.attributes es ≡ true

-- The kind of the edges that a step kind has.
abbrev pub edge_kind_of : (step : ℕ) → ℕ
edge_kind_of step = if leb step configure_step_kind then property_edge_kind else prototype_edge_kind

abbrev pub leads_to : Shape → Edge → Bool
leads_to s e = shared s && eqb s.previous e.parent && eqb (edge_kind (step_of s.step e)) e.kind

-- A shape's entries can be read, and its table's attributes are good.
pub record Keyed (m : Model) (s : Shape) : Type 0 where
  pub tabled : Tabled m s
  pub good : every (λ e. good_attributes e.attributes) (table_of m s) ≡ true

abbrev pub good_edge : Model → Edge → Bool
good_edge m e =
    let p = shape_at m e.parent in
    free_edge e || (shared p && good_label (entries m p) e && good_child (shape_at m e.child) e)

-- ## Every record

-- What a sentence takes for granted.
pub record TablesKnown (m : Model) : Type 0 where
  pub ranges : in_range m ≡ true
  pub in_use : table_in_use m ≡ true
  pub good : tables_good m ≡ true
  pub counts : counts_fit m ≡ true

-- A step to a child has tested the width of its edge's attributes.
pub record StepsKnown (m : Model) : Type 0 where
  pub tables : TablesKnown m
  pub stepped : children_stepped m ≡ true
