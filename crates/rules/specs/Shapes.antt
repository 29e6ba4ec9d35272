-- What the rules say of entries and of shapes: the words in which they are written.
-- Assumes nothing.
use Rattle.std.specs.Prelude.{Bool, ◌&&◌, not, List, [], ◌∷◌, ◌++◌, map, ℕ, ◌+◌, eqb, take}
use Rattle.std.specs.Prelude.{if◌then◌else◌}
use Rattle.slot.specs.Attributes.{width}
use Rattle.store.specs.Lists.{keep, any}
use Rattle.store.specs.Model.{Model, table_at, entries_of, no_counters}
use Rattle.store.specs.declared.Counters.{Counters}
use Rattle.store.specs.declared.Shape.{Shape}
use Rattle.store.specs.declared.Entry.{Entry}

-- ## Entries

abbrev pub entry : (key attributes slot : ℕ) → Entry
entry k a n = record { key = k; attributes = a; slot = record { 0 = n } }

abbrev pub is_key : ℕ → Entry → Bool
is_key k e = eqb e.key k

abbrev pub has : ℕ → List Entry → Bool
has k es = any (is_key k) es

-- The attributes of a key, 0 if it is absent.
abbrev pub attributes_in : ℕ → List Entry → ℕ
attributes_in k [] = 0
attributes_in k (e ∷ es) = if is_key k e then e.attributes else attributes_in k es

-- The sum of the widths.
abbrev pub widths : List Entry → ℕ
widths [] = 0
widths (e ∷ es) = width e.attributes + widths es

-- One more entry; its slot index is the sum of the widths before it.
abbrev pub appended : List Entry → (key attributes : ℕ) → List Entry
appended es k a = es ++ entry k a (widths es) ∷ []

-- Other attributes for a key, at its slot.
abbrev pub configured : List Entry → (key attributes : ℕ) → List Entry
configured es k a = map (λ e. if is_key k e then entry k a e.slot.0 else e) es

abbrev pub without : List Entry → (key : ℕ) → List Entry
without es k = keep (λ e. not (is_key k e)) es

-- "with all slots worked out": the first at n, each next one after the widths before it.
abbrev pub laid : ℕ → List Entry → List Entry
laid n [] = []
laid n (e ∷ es) = entry e.key e.attributes n ∷ laid (n + width e.attributes) es

-- Keys with their attributes, one after the other.
abbrev pub pairs : List Entry → List ℕ
pairs [] = []
pairs (e ∷ es) = e.key ∷ e.attributes ∷ pairs es

-- ## Shapes

-- "state (1 shared, 2 unique)"
abbrev pub shared_state : ℕ
shared_state = 1

abbrev pub unique_state : ℕ
unique_state = 2

abbrev pub shared : Shape → Bool
shared s = eqb s.state shared_state

abbrev pub unique : Shape → Bool
unique s = eqb s.state unique_state

abbrev pub is_root : Shape → Bool
is_root s = shared s && eqb s.previous 0

abbrev pub is_child : Shape → Bool
is_child s = shared s && not (eqb s.previous 0)

-- The whole table of a shape, and the first entries, which are the shape's own.
abbrev pub table_of : Model → Shape → List Entry
table_of m s = entries_of (table_at m s.table)

abbrev pub entries : Model → Shape → List Entry
entries m s = take s.properties (table_of m s)

-- A shape that no step has made.
abbrev pub standing : (state holds properties prototype table : ℕ) → Shape
standing state h n p t =
    record {
      state = state;
      holds = h;
      previous = 0;
      step = 0;
      transitions = 0;
      properties = n;
      prototype = p;
      table = t;
      counters = no_counters;
    }

abbrev pub root_shape : (table : ℕ) → Shape
root_shape t = standing shared_state 0 0 0 t

abbrev pub unique_shape : (holds properties prototype table : ℕ) → Shape
unique_shape h n p t = standing unique_state h n p t

-- A shape with other holds, counters or property count.
abbrev pub with_holds : Shape → ℕ → Shape
with_holds s n =
    record {
      state = s.state;
      holds = n;
      previous = s.previous;
      step = s.step;
      transitions = s.transitions;
      properties = s.properties;
      prototype = s.prototype;
      table = s.table;
      counters = s.counters;
    }

abbrev pub with_counters : Shape → Counters → Shape
with_counters s c =
    record {
      state = s.state;
      holds = s.holds;
      previous = s.previous;
      step = s.step;
      transitions = s.transitions;
      properties = s.properties;
      prototype = s.prototype;
      table = s.table;
      counters = c;
    }

abbrev pub with_properties : Shape → ℕ → Shape
with_properties s n =
    record {
      state = s.state;
      holds = s.holds;
      previous = s.previous;
      step = s.step;
      transitions = s.transitions;
      properties = n;
      prototype = s.prototype;
      table = s.table;
      counters = s.counters;
    }
