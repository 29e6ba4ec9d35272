-- Where the areas of a model's words are, and what the test of an image says.
-- Assumes nothing.
use Rattle.std.specs.Prelude.{◌≡◌, true, List, [], ◌++◌, ℕ, ◌+◌, ◌*◌, length, take, drop}
use Rattle.std.proofs.Common.{append-nil, arith, eqb-true, eq-eqb, length-append, drop-drop}
use Rattle.store.specs.Lists.{agree}
use Rattle.store.specs.Model.{Model, limits_of}
use Rattle.store.specs.ListLaws.{and_both, every-always, agree→≡, agree_self}
use Rattle.store.specs.Layout.{header, limits_in, total, tables_offset, edges_offset, good_header}
use Rattle.store.specs.Layout.{table_area, edge_area, words, tidy_tables, laid_out, fits}
use Rattle.store.specs.Rows.{area_length, area_rest}
use Rattle.store.specs.Records.{shapes-written, edges-written, tables-written}

-- ## A model's words

-- Their number, whether or not each table has room.
pub length-parts : (m : Model)
    → length (words m) ≡ 8 + 10 * length m.shapes + length (table_area m) + 5 * length m.edges
unfolding words
length-parts m =
    simp (
      length-append,
      area_length shapes-written m.shapes (every-always m.shapes),
      area_length edges-written m.edges (every-always m.edges),
    )
    (omega arith)

-- The tables' area, with the edges' after it.
pub tables-at : (m : Model)
    → drop (tables_offset (limits_of m)) (words m) ≡ table_area m ++ edge_area m
unfolding words
tables-at m = rw (← drop-drop) (area_rest shapes-written m.shapes _ (every-always m.shapes))

-- The edges' area, with nothing after it.
pub edges_at : (m : Model) → fits m ≡ true
    → drop (edges_offset (limits_of m)) (words m) ≡ edge_area m ++ []
unfolding fits
edges_at m e = rw (← drop-drop, tables-at m, append-nil) (area_rest (tables-written m.K) m.tables _ e)

-- ## What the test says

pub record Laid (ws : List ℕ) : Type 0 where
  pub headed : take 8 ws ≡ header (limits_in ws)
  pub long : length ws ≡ total (limits_in ws)
  pub tidy : tidy_tables ws ≡ true

pub laid_facts : (ws : List ℕ) → laid_out ws ≡ true → Laid ws
unfolding laid_out
laid_facts ws e =
    let p = and_both (good_header ws) e in
    let h = and_both (agree (take 8 ws) (header (limits_in ws))) p.0 in
    record { headed = agree→≡ _ _ h.0; long = eqb-true _ _ h.1; tidy = p.1 }

pub facts_laid : (ws : List ℕ) → Laid ws → laid_out ws ≡ true
unfolding laid_out
facts_laid ws f = rw (f.headed, agree_self (header (limits_in ws)), eq-eqb _ _ f.long) f.tidy
