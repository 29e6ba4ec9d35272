-- The plan of a list of steps: which refusal they meet, found before a word is written.
-- Assumes nothing.
use Rattle.std.specs.Prelude.{Bool, true, false, ◌&&◌, ◌||◌, not, List, [], ◌∷◌, ℕ, suc, ◌+◌, ◌-◌, eqb, ltb, leb, length, drop}
use Rattle.std.proofs.Math.Option.{Option, none, some}
use Rattle.std.specs.Prelude.{if◌then◌else◌}
use Rattle.store.specs.Lists.{keep, first}
use Rattle.store.specs.Model.{Model, free_shape, free_table, free_edge, shape_at}
use Rattle.store.specs.declared.Shape.{Shape}
use Rattle.store.specs.declared.Edge.{Edge}
use Rattle.rules.specs.declared.Refusal.TheVariants.{KeysFull, ShapesFull, TablesFull, EdgesFull}
use Rattle.rules.specs.Refusals.{Got, ok, ◌>>=◌, ◌>>◌, refuse}
use Rattle.rules.specs.Shapes.{table_of}
use Rattle.rules.specs.Steps.{Step, insert, configure, prototype, edge_of, edge_kind, added, alike, dead}
use Rattle.rules.specs.Steps.{counter}
use Rattle.plan.specs.declared.Way.{Way}
use Rattle.plan.specs.declared.Room.{Room}

-- ## Along live edges

abbrev pub edge_for : Model → (place : ℕ) → Step → Option Edge
edge_for m n t = first (alike (edge_of n t 0)) m.edges

-- The child of an edge, 0 where there is none or a dead one.
abbrev pub child_of : Option Edge → ℕ
child_of none = 0
child_of (some e) = e.child

abbrev pub is_edge : Option Edge → Bool
is_edge none = false
is_edge (some e) = true

abbrev pub further : Way → Way
further w = record { found = suc w.found; place = w.place }

abbrev pub follow : List Step → Model → ℕ → Way
follow [] m n = record { found = 0; place = n }
follow (t ∷ ts) m n =
    let c = child_of (edge_for m n t) in
    if eqb c 0 then record { found = 0; place = n } else further (follow ts m c)

-- ## What there is

abbrev pub count : {A : Type 0} → (A → Bool) → List A → ℕ
count test xs = length (keep test xs)

abbrev pub is_whole : Model → Shape → Bool
is_whole m s = eqb s.properties (length (table_of m s))

-- At a place, with so many edges given back by prunes.
unfoldable pub room_at : Model → (place back : ℕ) → Room
room_at m n back =
    let s = shape_at m n in
    record {
      keys = m.K - s.properties;
      shapes = count free_shape m.shapes;
      tables = count free_table m.tables;
      edges = count free_edge m.edges + back;
      whole = is_whole m s;
    }

abbrev pub wraps : Model → (place kind : ℕ) → Bool
wraps m n kind = eqb (counter kind (shape_at m n).counters) 255

abbrev pub dead_edges : Model → (place kind : ℕ) → ℕ
dead_edges m n kind = count (dead n kind) m.edges

-- What a new step's prunes give back: there is a dead edge for it, or the counter stands at 255.
unfoldable pub gives : Model → (place : ℕ) → Step → ℕ
gives m n t = if is_edge (edge_for m n t) || wraps m n (edge_kind t) then dead_edges m n (edge_kind t) else 0

-- Only the first new step can prune: every later parent is new.
abbrev pub first_gives : Model → (place : ℕ) → List Step → ℕ
first_gives m n [] = 0
first_gives m n (t ∷ ts) = gives m n t

-- ## What new steps need

abbrev pub copies : (whole : Bool) → Step → Bool
copies whole (insert k a) = not whole
copies whole (configure k a) = true
copies whole (prototype p) = false

-- After an insert the table's entries are the parent's with the new one, appended or copied.
abbrev pub whole_after : (whole : Bool) → Step → Bool
whole_after whole (insert k a) = true
whole_after whole (configure k a) = whole
whole_after whole (prototype p) = whole

abbrev pub spent : Step → Room → Room
spent t r =
    record {
      keys = r.keys - added t;
      shapes = r.shapes - 1;
      tables = if copies r.whole t then r.tables - 1 else r.tables;
      edges = r.edges - 1;
      whole = whole_after r.whole t;
    }

-- "7 to 10: the lowest that applies in the first step that meets one".
unfoldable pub spend : Step → Room → Got Room
spend t r = do
  refuse KeysFull (eqb (added t) 1 && eqb r.keys 0)
  refuse ShapesFull (eqb r.shapes 0)
  refuse TablesFull (copies r.whole t && eqb r.tables 0)
  refuse EdgesFull (eqb r.edges 0)
  ok (spent t r)

abbrev pub spend_all : List Step → Room → Got Room
spend_all [] r = ok r
spend_all (t ∷ ts) r = spend t r >>= spend_all ts

-- ## The plan: what it refuses, or the room that is left

unfoldable pub plan : Model → (place : ℕ) → List Step → Got Room
plan m n ts =
    let w = follow ts m n in
    let left = drop w.found ts in
    spend_all left (room_at m w.place (first_gives m w.place left))

-- Conversion to unique needs a shape and a table more.
abbrev pub converted : (limit : Bool) → Room → Got Room
converted limit r = do
  refuse ShapesFull (limit && eqb r.shapes 0)
  refuse TablesFull (limit && eqb r.tables 0)
  ok r

-- "If the final result has 1,024 transitions".
unfoldable pub plan_limited : Model → (place : ℕ) → List Step → Got Room
plan_limited m n ts = plan m n ts >>= converted (eqb ((shape_at m n).transitions + length ts) 1024)

-- ## Without a loop: n inserts

-- Each appends: what runs out first, and the lowest refusal of those that do.
unfoldable pub appending : ℕ → Room → Got Room
appending n r = do
  refuse KeysFull (ltb r.keys n && leb r.keys r.shapes && leb r.keys r.edges)
  refuse ShapesFull (ltb r.shapes n && leb r.shapes r.edges)
  refuse EdgesFull (ltb r.edges n)
  ok record {
    keys = r.keys - n;
    shapes = r.shapes - n;
    tables = r.tables;
    edges = r.edges - n;
    whole = r.whole;
  }

-- The first of them copies the table if it has other entries; the others append.
unfoldable pub inserting : ℕ → Room → Got Room
inserting n r =
    if r.whole || eqb n 0 then appending n r
    else do
      refuse KeysFull (eqb r.keys 0)
      refuse ShapesFull (eqb r.shapes 0)
      refuse TablesFull (eqb r.tables 0)
      appending n record {
        keys = r.keys;
        shapes = r.shapes;
        tables = r.tables - 1;
        edges = r.edges;
        whole = true;
      }
