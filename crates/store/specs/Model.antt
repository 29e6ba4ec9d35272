-- The image of document 01 as records, without its words.
-- Assumes nothing.
use Rattle.std.specs.Prelude.{Bool, true, false, List, [], ℕ, eqb, length, replicate}
use Rattle.store.specs.Lists.{at, put}
use Rattle.store.specs.declared.Limits.{Limits}
use Rattle.store.specs.declared.Counters.{Counters}
use Rattle.store.specs.declared.Shape.{Shape}
use Rattle.store.specs.declared.Entry.{Entry}
use Rattle.store.specs.declared.Edge.{Edge}

-- A table is free, or in use with its entries.
pub data Table : Type 0 where
  free : Table
  used : List Entry → Table

-- There are as many shapes, tables and edges as the lists are long.
pub record Model : Type 0 where
  pub K : ℕ
  pub shapes : List Shape
  pub tables : List Table
  pub edges : List Edge

abbrev pub limits_of : Model → Limits
limits_of m =
    record {
      S = length m.shapes;
      T = length m.tables;
      K = m.K;
      E = length m.edges;
    }

-- ## Free records, which are zero

abbrev pub no_entry : Entry
no_entry = record { key = 0; attributes = 0; slot = record { 0 = 0 } }

abbrev pub no_counters : Counters
no_counters = record { property = 0; prototype = 0 }

abbrev pub no_shape : Shape
no_shape =
    record {
      state = 0;
      holds = 0;
      previous = 0;
      step = 0;
      transitions = 0;
      properties = 0;
      prototype = 0;
      table = 0;
      counters = no_counters;
    }

abbrev pub no_edge : Edge
no_edge = record { parent = 0; kind = 0; label = 0; attributes = 0; child = 0 }

abbrev pub free_shape : Shape → Bool
free_shape s = eqb s.state 0

abbrev pub free_table : Table → Bool
free_table free = true
free_table (used es) = false

abbrev pub free_edge : Edge → Bool
free_edge e = eqb e.parent 0

-- Every record is free.
abbrev pub blank : Limits → Model
blank l =
    record {
      K = l.K;
      shapes = replicate l.S no_shape;
      tables = replicate l.T free;
      edges = replicate l.E no_edge;
    }

-- ## Reading

unfoldable pub shape_at : Model → ℕ → Shape
shape_at m n = at m.shapes n no_shape

unfoldable pub table_at : Model → ℕ → Table
table_at m t = at m.tables t free

unfoldable pub edge_at : Model → ℕ → Edge
edge_at m e = at m.edges e no_edge

abbrev pub entries_of : Table → List Entry
entries_of free = []
entries_of (used es) = es

-- ## Writing

unfoldable pub put_shape : Model → ℕ → Shape → Model
put_shape m n s = record { K = m.K; shapes = put m.shapes n s; tables = m.tables; edges = m.edges }

unfoldable pub put_table : Model → ℕ → Table → Model
put_table m t x = record { K = m.K; shapes = m.shapes; tables = put m.tables t x; edges = m.edges }

unfoldable pub put_edge : Model → ℕ → Edge → Model
put_edge m n e = record { K = m.K; shapes = m.shapes; tables = m.tables; edges = put m.edges n e }
