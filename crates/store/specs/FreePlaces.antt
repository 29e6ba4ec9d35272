-- The lowest free place and the number of free places, found by a scan. One law serves the three areas:
-- a record is free exactly if its first word is 0.
-- Assumes nothing.
use Rattle.std.specs.Prelude.{◌≡◌, Bool, true, false, List, [], ◌∷◌, map, ℕ, zero, suc, ◌+◌, ◌-◌, ◌*◌, ◌≤◌, ◌<◌, eqb, length, get_or, take, drop}
use Rattle.std.proofs.Math.Path.{refl}
use Rattle.std.proofs.Common.{sym, ap, ◌∙◌, mul-zero, not-suc-le-zero, le_of_suc-le-suc, arith, ne_eqb, length-drop, length-take-le, drop-drop}
use borrow.Rule.Slice.PartMut.{mid_of}
use Rattle.std.specs.Prelude.{if◌then◌else◌}
use Rattle.store.specs.Lists.{lowest, keep}
use Rattle.store.specs.Model.{limits_of, free_shape, free_table, free_edge}
use Rattle.store.specs.Layout.{rows, read_shape, read_table, read_entries, read_edge, table_width, total}
use Rattle.store.specs.Layout.{parse}
use Rattle.store.specs.Layout.{limits_in, tables_offset, edges_offset, table_rows}
use Rattle.store.specs.ThereAndBack.{limits-parse}
use Rattle.store.specs.Rows.{mul-suc-left}
use Rattle.store.specs.Spots.{spot}
use Rattle.store.specs.declared.Limits.{Limits}
use Rattle.store.specs.Image.{Place, Formed, lays_length, spot-inside}

-- ## Rows

-- An area of so many records, of at least a word each, lies within the words.
pub record Area (ws : List ℕ) (o w n : ℕ) : Type 0 where
  pub wide : 1 ≤ w
  pub few : n ≤ 65535
  pub inside : o + w * n ≤ length ws

pub area_spot : {ws : List ℕ} {o w n : ℕ} → Area ws o w n → (k : ℕ) → k < n → spot o w (k + 1) + w ≤ length ws
area_spot {o = o} {w = w} {n = n} a k l =
    let inside = a.inside in
    let its : Place n (k + 1) = record { low = omega arith; high = omega arith } in
    let ends = spot-inside o w its in
    omega arith

-- The words of a free record begin with 0.
abbrev pub unused : List ℕ → Bool
unused row = eqb (get_or row 0 0) 0

pub row_long : {ws row : List ℕ} {o w n : ℕ} → Area ws o w n → (k : ℕ) → k < n
    → row ≡ mid_of (spot o w (k + 1)) w ws → length row ≡ w
row_long {ws} a k l e =
    let ends = area_spot a k l in
    ap length e ∙ length-take-le _ _ (rw length-drop (omega arith))

row_at : (w n : ℕ) (ws : List ℕ) (k : ℕ) → k < n → get_or (rows w n ws) k [] ≡ take w (drop (w * k) ws)
unfolding rows
row_at w zero ws k l = absurd (not-suc-le-zero l)
row_at w (suc n) ws zero l = rw mul-zero
row_at w (suc n) ws (suc k) l =
    rw (mul-suc-left, ← drop-drop) (row_at w n (drop w ws) k (le_of_suc-le-suc l))

-- The row at a place of an area from o on.
pub row_at_place : (o w n : ℕ) (ws : List ℕ) (k : ℕ) → k < n
    → get_or (rows w n (drop o ws)) k [] ≡ mid_of (spot o w (k + 1)) w ws
row_at_place o w n ws k l =
    let one : k + 1 - 1 ≡ k = omega arith in
    rw (one, ← drop-drop) (row_at w n (drop o ws) k l)

-- Its first word tells whether it is free.
pub row_unused : (o w n : ℕ) (ws : List ℕ) (k : ℕ) {row : List ℕ} → k < n
    → row ≡ mid_of (spot o w (k + 1)) w ws
    → eqb (get_or row 0 0) 0 ≡ unused (get_or (rows w n (drop o ws)) k [])
row_unused o w n ws k l e = rw (row_at_place o w n ws k l, e)

-- ## Records

-- The records of an area, as they are read from its rows.
pub record Listed {A : Type 0} (is_free : A → Bool) (ws : List ℕ) (o w n : ℕ) (xs : List A) : Type 0 where
  pub area : Area ws o w n
  pub read : List ℕ → A
  pub records : xs ≡ map read (rows w n (drop o ws))
  pub same : (row : List ℕ) → unused row ≡ is_free (read row)

module _
    {A : Type 0}
    {is_free : A → Bool}
    {ws : List ℕ}
    {o w n : ℕ}
    {xs : List A}
    (l : Listed is_free ws o w n xs)
  where
    lowest-read : (start : ℕ) (rs : List (List ℕ))
        → lowest unused start rs ≡ lowest is_free start (map l.read rs)
    lowest-read start [] = refl
    lowest-read start (r ∷ rs) = rw (l.same r, lowest-read (suc start) rs)

    pub lowest-listed : {r : ℕ} → r ≡ lowest unused 1 (rows w n (drop o ws)) → r ≡ lowest is_free 1 xs
    lowest-listed e = e ∙ lowest-read 1 (rows w n (drop o ws)) ∙ ap (lowest is_free 1) (sym l.records)

    count-read : (rs : List (List ℕ)) → length (keep unused rs) ≡ length (keep is_free (map l.read rs))
    count-read [] = refl
    count-read (r ∷ rs) = go (is_free (l.read r)) (l.same r) (count-read rs)
      where
        go : (b : Bool) → unused r ≡ b → length (keep unused rs) ≡ length (keep is_free (map l.read rs))
            → length (if unused r then r ∷ keep unused rs else keep unused rs)
            ≡ length
            (if b then l.read r ∷ keep is_free (map l.read rs) else keep is_free (map l.read rs))
        go true e again = rw e (ap suc again)
        go false e again = rw e again

    pub count-listed : {r : ℕ} → r ≡ length (keep unused (rows w n (drop o ws))) → r ≡ length (keep is_free xs)
    count-listed e =
        e
        ∙ count-read (rows w n (drop o ws))
        ∙ ap (λ (ys : List A). length (keep is_free ys)) (sym l.records)

table-unused : (row : List ℕ) → unused row ≡ free_table (read_table row)
table-unused row = go (get_or row 0 0)
  where
    go : (count : ℕ) → eqb count 0 ≡ free_table (read_entries count (drop 1 row))
    go zero = refl
    go (suc n) = ne_eqb (suc n) 0 (λ e. absurd (omega (arith, e)))

-- The areas of an image.
module _ (ws : List ℕ) where
  shapes-read : (parse ws).shapes ≡ map read_shape (rows 10 (limits_in ws).S (drop 8 ws))
  unfolding parse
  shapes-read = refl

  tables-read : (parse ws).tables ≡ map read_table (table_rows ws)
  unfolding parse
  tables-read = refl

  edges-read : (parse ws).edges ≡ map read_edge (rows 5 (limits_in ws).E (drop (edges_offset (limits_in ws)) ws))
  unfolding parse
  edges-read = refl

module _ {ws : List ℕ} (f : Formed ws) where
  long : length ws ≡ total (limits_of (parse ws))
  long = lays_length f

  pub shapes-listed : {n : ℕ} → n ≡ length (parse ws).shapes → Listed free_shape ws 8 10 n (parse ws).shapes
  shapes-listed {n} e =
      let few = f.limited.shapes in
      let many = e ∙ ap (λ (l : Limits). l.S) (limits-parse ws) in
      record {
        area = record { wide = omega arith; few = omega arith; inside = omega (arith, long) };
        read = read_shape;
        records = rw many (shapes-read ws);
        same = λ row. refl;
      }

  pub tables-listed : {o w n : ℕ} → o ≡ tables_offset (limits_of (parse ws)) → w ≡ table_width (parse ws).K
      → n ≡ length (parse ws).tables
      → Listed free_table ws o w n (parse ws).tables
  tables-listed {o} {w} {n} start wide e =
      let few = f.limited.tables in
      let many = e ∙ ap (λ (l : Limits). l.T) (limits-parse ws) in
      let from = start ∙ ap tables_offset (limits-parse ws) in
      let keys = wide ∙ ap (λ (l : Limits). table_width l.K) (limits-parse ws) in
      record {
        area =
            record {
              wide = omega arith;
              few = omega arith;
              inside = rw (start, wide, e) (omega (arith, long));
            };
        read = read_table;
        records = rw (many, from, keys) (tables-read ws);
        same = table-unused;
      }

  pub edges-listed : {o n : ℕ} → o ≡ edges_offset (limits_of (parse ws)) → n ≡ length (parse ws).edges
      → Listed free_edge ws o 5 n (parse ws).edges
  edges-listed {o} {n} start e =
      let few = f.limited.edges in
      let many = e ∙ ap (λ (l : Limits). l.E) (limits-parse ws) in
      let from = start ∙ ap edges_offset (limits-parse ws) in
      record {
        area = record { wide = omega arith; few = omega arith; inside = rw (start, e) (omega (arith, long)) };
        read = read_edge;
        records = rw (many, from) (edges-read ws);
        same = λ row. refl;
      }
