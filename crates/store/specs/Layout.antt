-- Document 01, "The image": the words that lay a model out, and how they are read again.
-- Assumes nothing.
use Rattle.std.specs.Prelude.{Bool, ◌&&◌, List, [], ◌∷◌, ◌++◌, map, ℕ, zero, suc, ◌+◌, ◌-◌, ◌*◌, eqb, leb, length, get_or, take, drop, replicate}
use Rattle.store.specs.Lists.{every, all, agree, zeros}
use Rattle.store.specs.Model.{Table, free, used, Model, limits_of, entries_of}
use Rattle.store.specs.declared.Limits.{Limits}
use Rattle.store.specs.declared.Shape.{Shape}
use Rattle.store.specs.declared.Entry.{Entry}
use Rattle.store.specs.declared.Edge.{Edge}

-- ## Header, 8 words

-- "Areas follow without gaps in that order."
abbrev pub tables_offset : Limits → ℕ
tables_offset l = 8 + 10 * l.S

abbrev pub edges_offset : Limits → ℕ
edges_offset l = 8 + 10 * l.S + (1 + 3 * l.K) * l.T

abbrev pub total : Limits → ℕ
total l = 8 + 10 * l.S + (1 + 3 * l.K) * l.T + 5 * l.E

-- "S shapes, T tables, K keys per table, E edges, offset of shapes (8), of tables, of edges, total words."
abbrev pub header : Limits → List ℕ
header l = l.S ∷ l.T ∷ l.K ∷ l.E ∷ 8 ∷ tables_offset l ∷ edges_offset l ∷ total l ∷ []

abbrev pub limits_in : List ℕ → Limits
limits_in ws = record { S = get_or ws 0 0; T = get_or ws 1 0; K = get_or ws 2 0; E = get_or ws 3 0 }

abbrev pub within : (low high n : ℕ) → Bool
within low high n = leb low n && leb n high

-- "S, T, E are 1 to 65,535; K 1 to 2,048; total at most 16,777,216."
abbrev pub limit_sentences : Limits → List Bool
limit_sentences l =
    within 1 65535 l.S
    ∷ within 1 65535 l.T
    ∷ within 1 65535 l.E
    ∷ within 1 2048 l.K
    ∷ leb (total l) 16777216
    ∷ []

abbrev pub good_limits : Limits → Bool
good_limits l = all (limit_sentences l)

-- "The header agrees with the slice's length."
abbrev pub good_header : List ℕ → Bool
good_header ws = agree (take 8 ws) (header (limits_in ws)) && eqb (length ws) (total (limits_in ws))

-- Not "a limit or the total out of range, or slice length differs from the total".
abbrev pub formattable : Limits → List ℕ → Bool
formattable l ws = good_limits l && eqb (length ws) (total l)

-- ## A record's words

-- "Shape, 10 words: state .., holds, previous .., step kind .., transition count, property count, prototype, table,
-- property counter, prototype counter."
abbrev pub shape_words : Shape → List ℕ
shape_words s =
    s.state
    ∷ s.holds
    ∷ s.previous
    ∷ s.step
    ∷ s.transitions
    ∷ s.properties
    ∷ s.prototype
    ∷ s.table
    ∷ s.counters.property
    ∷ s.counters.prototype
    ∷ []

abbrev pub read_shape : List ℕ → Shape
read_shape r =
    record {
      state = get_or r 0 0;
      holds = get_or r 1 0;
      previous = get_or r 2 0;
      step = get_or r 3 0;
      transitions = get_or r 4 0;
      properties = get_or r 5 0;
      prototype = get_or r 6 0;
      table = get_or r 7 0;
      counters = record { property = get_or r 8 0; prototype = get_or r 9 0 };
    }

-- "key, attributes, slot index per entry"
abbrev pub entry_words : Entry → List ℕ
entry_words e = e.key ∷ e.attributes ∷ e.slot.0 ∷ []

abbrev pub read_entry : List ℕ → Entry
read_entry r = record { key = get_or r 0 0; attributes = get_or r 1 0; slot = record { 0 = get_or r 2 0 } }

-- "Edge, 5 words: parent, kind .., key or prototype, attributes .., child".
abbrev pub edge_words : Edge → List ℕ
edge_words e = e.parent ∷ e.kind ∷ e.label ∷ e.attributes ∷ e.child ∷ []

abbrev pub read_edge : List ℕ → Edge
read_edge r =
    record {
      parent = get_or r 0 0;
      kind = get_or r 1 0;
      label = get_or r 2 0;
      attributes = get_or r 3 0;
      child = get_or r 4 0;
    }

-- ## Rows: n records of w words each

unfoldable pub rows : (w n : ℕ) → List ℕ → List (List ℕ)
rows w zero ws = []
rows w (suc n) ws = take w ws ∷ rows w n (drop w ws)

unfoldable pub flat : List (List ℕ) → List ℕ
flat [] = []
flat (r ∷ rs) = r ++ flat rs

-- ## A table's words

-- "1 + number of entries"; 0 for a free table.
abbrev pub count_word : Table → ℕ
count_word free = 0
count_word (used es) = suc (length es)

abbrev pub table_width : (K : ℕ) → ℕ
table_width K = 1 + 3 * K

-- "Table, 1 + 3K words: 1 + number of entries, then key, attributes, slot index per entry."
-- Unused entries are zero.
abbrev pub table_words : (K : ℕ) → Table → List ℕ
table_words K t =
    count_word t ∷ flat (map entry_words (entries_of t)) ++ replicate (3 * (K - length (entries_of t))) 0

abbrev pub read_entries : (count : ℕ) → List ℕ → Table
read_entries zero ws = free
read_entries (suc n) ws = used (map read_entry (rows 3 n ws))

abbrev pub read_table : List ℕ → Table
read_table r = read_entries (get_or r 0 0) (drop 1 r)

-- ## The whole image

abbrev pub shape_area : Model → List ℕ
shape_area m = flat (map shape_words m.shapes)

abbrev pub table_area : Model → List ℕ
table_area m = flat (map (table_words m.K) m.tables)

abbrev pub edge_area : Model → List ℕ
edge_area m = flat (map edge_words m.edges)

unfoldable pub words : Model → List ℕ
words m = header (limits_of m) ++ (shape_area m ++ (table_area m ++ edge_area m))

-- "Formatting zeroes the slice and writes the header."
abbrev pub formatted : Limits → List ℕ
formatted l = header l ++ replicate (total l - 8) 0

abbrev pub table_rows : List ℕ → List (List ℕ)
table_rows ws = let l = limits_in ws in rows (table_width l.K) l.T (drop (tables_offset l) ws)

unfoldable pub parse : List ℕ → Model
parse ws =
    let l = limits_in ws in
    record {
      K = l.K;
      shapes = map read_shape (rows 10 l.S (drop 8 ws));
      tables = map read_table (table_rows ws);
      edges = map read_edge (rows 5 l.E (drop (edges_offset l) ws));
    }

-- ## Laid out

-- "unused entries are zero", and no table has more than K entries.
abbrev pub tidy_table : (K : ℕ) → List ℕ → Bool
tidy_table K r =
    let count = get_or r 0 0 in
    leb count (1 + K) && zeros (drop (1 + 3 * (count - 1)) r)

abbrev pub tidy_tables : List ℕ → Bool
tidy_tables ws = every (tidy_table (limits_in ws).K) (table_rows ws)

unfoldable pub laid_out : List ℕ → Bool
laid_out ws = good_header ws && tidy_tables ws

abbrev pub room_for : (K : ℕ) → Table → Bool
room_for K t = leb (length (entries_of t)) K

-- A model within its limits: no table has more than K entries.
unfoldable pub fits : Model → Bool
fits m = every (room_for m.K) m.tables
