-- An image that code may read and write by its records, and what it becomes when one of them is replaced.
-- Assumes nothing.
use Rattle.std.specs.Prelude.{◌≡◌, Bool, true, ℕ, suc, ◌+◌, ◌-◌, ◌*◌, ◌≤◌, ◌<◌, length}
use Rattle.std.proofs.Math.Path.{refl, sym, ap}
use Rattle.std.proofs.Common.{◌∙◌, mul-le-mul_left, arith, le-leb}
use mathlib.Core.List.{List, [], ◌++◌, map, append_assoc, append-nil}
use borrow.Rule.Slice.PartMut.{mid_of, put_mid}
use Rattle.std.proofs.Math.ListN.{get_or, length-append, get_or-append}
use Rattle.store.specs.Lists.{at, put, every}
use Rattle.store.specs.Model.{Table, Model, limits_of, free, no_shape, no_edge}
use Rattle.store.specs.Model.{shape_at, table_at, edge_at, put_shape, put_table, put_edge}
use Rattle.store.specs.PlaceLaws.{length-put}
use Rattle.store.specs.ListLaws.{every-always, every-put}
use Rattle.store.specs.Layout.{flat, header, total, tables_offset, edges_offset}
use Rattle.store.specs.Layout.{fits, room_for, words, parse}
use Rattle.store.specs.Layout.{shape_words, edge_words, table_words, table_width}
use Rattle.store.specs.Layout.{shape_area, table_area, edge_area}
use Rattle.store.specs.Rows.{Written, area_length, mul-suc-left}
use Rattle.store.specs.Records.{shapes-written, edges-written, tables-written, narrow_room}
use Rattle.store.specs.ThereAndBack.{parse-words, length-words}
use Rattle.store.specs.Spots.{spot, area_read, area_write}
use Rattle.store.specs.declared.Shape.{Shape}
use Rattle.store.specs.declared.Edge.{Edge}

-- ## Images

-- "S, T, E are 1 to 65,535; K 1 to 2,048": what code needs of it, so that no count wraps.
pub record Limited (m : Model) : Type 0 where
  pub shapes : length m.shapes ≤ 65535
  pub tables : length m.tables ≤ 65535
  pub keys : m.K ≤ 2048
  pub edges : length m.edges ≤ 65535

-- The words lay out the model.
pub record Lays (ws : List ℕ) (m : Model) : Type 0 where
  pub laid : ws ≡ words m
  pub roomy : fits m ≡ true
  pub limited : Limited m

-- The words lay out what they are read as.
abbrev pub Formed : List ℕ → Type 0
Formed ws = Lays ws (parse ws)

lays_parse : {ws : List ℕ} {m : Model} → Lays ws m → parse ws ≡ m
lays_parse {ws} {m} l = ap parse l.laid ∙ parse-words m l.roomy

lays_formed : {ws : List ℕ} {m : Model} → Lays ws m → Formed ws
lays_formed l = rw (lays_parse l) l

pub lays_length : {ws : List ℕ} {m : Model} → Lays ws m → length ws ≡ total (limits_of m)
lays_length {ws} {m} l = ap length l.laid ∙ length-words m l.roomy

-- ## Places

pub record Place (n p : ℕ) : Type 0 where
  pub low : 1 ≤ p
  pub high : p ≤ n

-- Records of one width: the one at a place ends within the area.
pub spot-inside : (o w : ℕ) {n p : ℕ} → Place n p → spot o w p + w ≤ o + w * n
spot-inside o w {n} {p} h =
    let low = h.low in
    let high = h.high in
    let next : suc (p - 1) ≡ p = omega arith in
    let all = mul-le-mul_left w high in
    let its = mul-suc-left w (p - 1) in
    let same = ap (λ (k : ℕ). w * k) next in
    omega arith

-- ## A record where it lies

-- The w words from `at` on are x's; with y's in their stead the image lays out `put y`.
pub record Row
    {A : Type 0}
    (lay : A → List ℕ)
    (w at : ℕ)
    (ws : List ℕ)
    (x : A)
    (put : A → Model)
    : Type 0 where
  pub inside : at + w ≤ length ws
  pub read : mid_of at w ws ≡ lay x
  pub write : (y : A) → length (lay y) ≡ w → Lays (put_mid at w ws (lay y)) (put y)

-- The words around each area.
around_tables : (m : Model)
    → words m ≡ (header (limits_of m) ++ shape_area m) ++ (table_area m ++ edge_area m)
unfolding words
around_tables m = rw append_assoc

around_edges : (m : Model)
    → words m ≡ (header (limits_of m) ++ (shape_area m ++ table_area m)) ++ (edge_area m ++ [])
unfolding words
around_edges m = rw (append-nil, append_assoc (shape_area m))

-- One law for the three areas.
area_row : {A : Type 0} {w : ℕ} {lay : A → List ℕ} {read : List ℕ → A}
    {good : A → Bool} {tidy : List ℕ → Bool}
    → Written w lay read good tidy
    → (front : List ℕ) (xs : List A) (rest ws : List ℕ) (o n : ℕ) (d : A) (model : A → Model)
    → length front ≡ o
    → every good xs ≡ true
    → ws ≡ front ++ (flat (map lay xs) ++ rest)
    → Place (length xs) n
    → ((y : A) → length (lay y) ≡ w → Lays (front ++ (flat (map lay (put xs n y)) ++ rest)) (model y))
    → Row lay w (spot o w n) ws (at xs n d) model
area_row {A} {w} {lay} kind front xs rest ws o n d model f e around h after =
    let long : length ws ≡ o + (w * length xs + length rest) =
    rw (around, length-append, length-append, f, area_length kind xs e) in
    let ends = spot-inside o w h in
    record {
      inside = omega arith;
      read = rw around (area_read kind front xs rest o n d f e h.low h.high);
      write = λ y q. rw (around, area_write kind front xs rest o n y f e h.low h.high) (after y q);
    }

module _ {ws : List ℕ} {m : Model} (l : Lays ws m) where
  shapes_long : length (shape_area m) ≡ 10 * length m.shapes
  shapes_long = area_length shapes-written m.shapes (every-always m.shapes)

  tables_long : length (table_area m) ≡ table_width m.K * length m.tables
  tables_long = area_length (tables-written m.K) m.tables (unfold fits in l.roomy)

  pub shape_row : {n : ℕ} → Place (length m.shapes) n
      → Row shape_words 10 (spot 8 10 n) ws (shape_at m n) (put_shape m n)
  unfolding words shape_at put_shape fits
  shape_row {n} h =
      area_row shapes-written (header (limits_of m)) m.shapes _ ws 8 n no_shape (put_shape m n)
      refl (every-always m.shapes) l.laid h
      (λ y q. record {
        laid = rw length-put;
        roomy = l.roomy;
        limited = record {
          shapes = rw length-put l.limited.shapes;
          tables = l.limited.tables;
          keys = l.limited.keys;
          edges = l.limited.edges;
        };
      })

  pub table_row : {o w t : ℕ} → o ≡ tables_offset (limits_of m) → w ≡ table_width m.K
      → Place (length m.tables) t
      → Row (table_words m.K) w (spot o w t) ws (table_at m t) (put_table m t)
  unfolding table_at put_table fits
  table_row {o} {w} {t} start wide h =
      rw (start, wide)
      (area_row (tables-written m.K) (header (limits_of m) ++ shape_area m) m.tables _ ws
      (tables_offset (limits_of m)) t free (put_table m t)
      (rw (length-append, shapes_long)) l.roomy (l.laid ∙ around_tables m) h
      (λ y q. record {
        laid = sym (around_tables (put_table m t y) ∙ rw length-put);
        roomy = every-put (room_for m.K) m.tables t y l.roomy
            (narrow_room m.K y (le-leb (length (table_words m.K y)) (table_width m.K) (omega arith)));
        limited = record {
          shapes = l.limited.shapes;
          tables = rw length-put l.limited.tables;
          keys = l.limited.keys;
          edges = l.limited.edges;
        };
      }))

  pub edge_row : {o e : ℕ} → o ≡ edges_offset (limits_of m) → Place (length m.edges) e
      → Row edge_words 5 (spot o 5 e) ws (edge_at m e) (put_edge m e)
  unfolding edge_at put_edge fits
  edge_row {o} {e} start h =
      rw start
      (area_row edges-written (header (limits_of m) ++ (shape_area m ++ table_area m)) m.edges [] ws
      (edges_offset (limits_of m)) e no_edge (put_edge m e)
      (rw (length-append, length-append, shapes_long, tables_long) (omega arith))
      (every-always m.edges) (l.laid ∙ around_edges m) h
      (λ y q. record {
        laid = sym (around_edges (put_edge m e y) ∙ rw length-put);
        roomy = l.roomy;
        limited = record {
          shapes = l.limited.shapes;
          tables = l.limited.tables;
          keys = l.limited.keys;
          edges = rw length-put l.limited.edges;
        };
      }))

-- A part that code lends from a to a + w, read, and put back.
module _
    {A : Type 0}
    {lay : A → List ℕ}
    {w at : ℕ}
    {ws : List ℕ}
    {x : A}
    {put : A → Model}
    (r : Row lay w at ws x put)
  where
    pub row_put : {a b : ℕ} {new : List ℕ} (y : A) → a ≡ at → b ≡ a + w → new ≡ lay y → length (lay y) ≡ w
        → Lays (put_mid a (b - a) ws new) (put y)
    row_put {a} {b} y e ends q n =
        let many : b - a ≡ w = omega arith in
        rw (many, e, q) (r.write y n)

-- ## What an image becomes

-- The limits are the same.
pub record Sizes (m n : Model) : Type 0 where
  pub shapes : length n.shapes ≡ length m.shapes
  pub tables : length n.tables ≡ length m.tables
  pub keys : n.K ≡ m.K
  pub edges : length n.edges ≡ length m.edges

same_sizes : (m : Model) → Sizes m m
same_sizes m = record { shapes = refl; tables = refl; keys = refl; edges = refl }

then_sizes : {m n o : Model} → Sizes m n → Sizes n o → Sizes m o
then_sizes a b =
    record {
      shapes = b.shapes ∙ a.shapes;
      tables = b.tables ∙ a.tables;
      keys = b.keys ∙ a.keys;
      edges = b.edges ∙ a.edges;
    }

pub put_shape_sizes : (m : Model) (n : ℕ) (s : Shape) → Sizes m (put_shape m n s)
unfolding put_shape
put_shape_sizes m n s =
    record { shapes = length-put m.shapes n s; tables = refl; keys = refl; edges = refl }

pub put_table_sizes : (m : Model) (t : ℕ) (x : Table) → Sizes m (put_table m t x)
unfolding put_table
put_table_sizes m t x =
    record { shapes = refl; tables = length-put m.tables t x; keys = refl; edges = refl }

pub put_edge_sizes : (m : Model) (n : ℕ) (e : Edge) → Sizes m (put_edge m n e)
unfolding put_edge
put_edge_sizes m n e =
    record { shapes = refl; tables = refl; keys = refl; edges = length-put m.edges n e }

-- The image has become the layout of m.
pub record Becomes (before after : List ℕ) (m : Model) : Type 0 where
  pub laid : after ≡ words m
  pub parsed : parse after ≡ m
  pub formed : Formed after
  pub sizes : Sizes (parse before) (parse after)
  pub long : length after ≡ length before

pub becomes : {before after : List ℕ} {m : Model} → Formed before → Lays after m → Sizes (parse before) m
    → Becomes before after m
becomes {before} {after} {m} f l s =
    record {
      laid = l.laid;
      parsed = lays_parse l;
      formed = lays_formed l;
      sizes = rw (lays_parse l) s;
      long = lays_length l ∙ rw (s.shapes, s.tables, s.keys, s.edges) (sym (lays_length f));
    }

pub unchanged : {ws : List ℕ} → Formed ws → Becomes ws ws (parse ws)
unchanged {ws} f = becomes f f (same_sizes (parse ws))

-- One change after another.
pub and_then : {a b c : List ℕ} {m n : Model} → Becomes a b m → Becomes b c n → Becomes a c n
and_then x y =
    record {
      laid = y.laid;
      parsed = y.parsed;
      formed = y.formed;
      sizes = then_sizes x.sizes y.sizes;
      long = y.long ∙ x.long;
    }

-- ## The header's words

module _ {ws : List ℕ} {m : Model} (l : Lays ws m) where
  pub header_there : 8 ≤ length ws
  header_there = let n = lays_length l in omega arith

  pub header_word : (k : ℕ) → k < 8 → get_or ws k 0 ≡ get_or (header (limits_of m)) k 0
  unfolding words
  header_word k h =
      ap (λ (v : List ℕ). get_or v k 0) l.laid
      ∙ get_or-append (header (limits_of m)) (shape_area m ++ (table_area m ++ edge_area m)) 0 k h
