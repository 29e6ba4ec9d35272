-- The laws of the layout: an image that is laid out and a model within its limits are two forms of one thing.
-- Assumes nothing.
use Rattle.std.specs.Prelude.{◌≡◌, refl, ◌↔◌, true, List, [], ◌++◌, map, ℕ, ◌+◌, ◌-◌, ◌*◌, length, drop}
use Rattle.std.proofs.Common.{sym, ap, ap₂, ◌∙◌, append-nil, arith, le-leb, drop_of_length-le, take-append-drop}
use Rattle.std.proofs.lemmas.List.{length-map, length-replicate, replicate-append-replicate}
use Rattle.store.specs.Model.{Model, limits_of, blank, free, no_shape, no_edge}
use Rattle.store.specs.declared.Limits.{Limits}
use Rattle.store.specs.ListLaws.{every-replicate, every_map, every_then, every-always}
use Rattle.store.specs.Layout.{flat, header, limits_in, total, tables_offset, edges_offset}
use Rattle.store.specs.Layout.{shape_words, edge_words, table_width, table_words, words, formatted}
use Rattle.store.specs.Layout.{table_rows, parse, laid_out, room_for, fits}
use Rattle.store.specs.Rows.{length-rows, area_length, area_rows, area_back, area_there_at}
use Rattle.store.specs.Rows.{exact_area, zero_area}
use Rattle.store.specs.Records.{shapes-written, edges-written, tables-written, room_tidy}
use Rattle.store.specs.Records.{tidy_room, wide_table, narrow_room, zero-table}
use Rattle.store.specs.Areas.{length-parts, tables-at, edges_at, Laid, laid_facts, facts_laid}

-- ## Limits

-- The limits in a model's words are the model's.
pub limits-words : (m : Model) → limits_in (words m) ≡ limits_of m
unfolding words
limits-words m = refl

-- The model read from an image, whatever its words, has the limits that the image names.
pub limits-parse : (ws : List ℕ) → limits_of (parse ws) ≡ limits_in ws
unfolding parse
limits-parse ws = simp (length-map, length-rows)

-- A model within its limits has as many words as they say.
pub length-words : (m : Model) → fits m ≡ true → length (words m) ≡ total (limits_of m)
unfolding fits
length-words m e = length-parts m ∙ rw (area_length (tables-written m.K) m.tables e)

-- No other model has.
fits-words : (m : Model) → length (words m) ≡ total (limits_of m) → fits m ≡ true
unfolding fits
fits-words m e =
    let n = length-parts m in
    every_then (narrow_room m.K) m.tables
    (exact_area (table_width m.K) (table_words m.K) (wide_table m.K) m.tables (omega arith))

-- ## From a model to words and back

-- A model within its limits is what its words are read as.
pub parse-words : (m : Model) → fits m ≡ true → parse (words m) ≡ m
unfolding words parse fits
parse-words m e =
    rw (
      area_back shapes-written m.shapes _ (every-always m.shapes),
      tables-at m,
      area_back (tables-written m.K) m.tables _ e,
      edges_at m e,
      area_back edges-written m.edges [] (every-always m.edges),
    )

-- Its words are laid out.
pub laid-words : (m : Model) → fits m ≡ true → laid_out (words m) ≡ true
unfolding words fits
laid-words m e =
    facts_laid (words m)
    (record {
      headed = refl;
      long = length-words m e;
      tidy =
          rw (tables-at m, area_rows (tables-written m.K) m.tables _ e, every_map)
          (every_then (room_tidy m.K) m.tables e);
    })

-- ## From words to a model and back

-- An image that is laid out is read as a model within its limits.
pub fits-parse : (ws : List ℕ) → laid_out ws ≡ true → fits (parse ws) ≡ true
unfolding parse fits
fits-parse ws e =
    rw every_map (every_then (tidy_room (limits_in ws).K) (table_rows ws) (laid_facts ws e).tidy)

-- An image is laid out exactly if it is the words of what it is read as, and as long as its header says.
pub words-parse : (ws : List ℕ)
    → (laid_out ws ≡ true) ↔ ((words (parse ws) ≡ ws) × (length ws ≡ total (limits_in ws)))
unfolding words parse
words-parse ws = (λ e. let f = laid_facts ws e in (there f, f.long), λ p. back p.0 p.1)
  where
    there : Laid ws → words (parse ws) ≡ ws
    there f =
        let l = limits_in ws in
        let ss = area_there_at shapes-written 8 l.S ws (omega arith) (search every-always) in
        let ts = area_there_at (tables-written l.K) (tables_offset l) l.T ws (omega arith) f.tidy in
        let es = area_there_at edges-written (edges_offset l) l.E ws (omega arith) (search every-always) in
        let end : drop (total l) ws ≡ [] = drop_of_length-le ws {i = total l} (omega arith) in
        ap₂ ◌++◌ (ap header (limits-parse ws) ∙ sym f.headed)
        (rw (← (append-nil (flat (map edge_words (parse ws).edges))), ← end, es, ts) ss)
        ∙ take-append-drop 8 ws

    back : words (parse ws) ≡ ws → length ws ≡ total (limits_in ws) → laid_out ws ≡ true
    back e n =
        let long = ap length e ∙ n ∙ ap total (sym (limits-parse ws)) in
        rw e at (laid-words (parse ws) (fits-words (parse ws) long))

-- ## A formatted image

-- It is the words of the model whose records are all free.
pub blank-words : (l : Limits) → words (blank l) ≡ formatted l
unfolding words
blank-words l =
    let W = table_width l.K in
    let n : 10 * l.S + (W * l.T + 5 * l.E) ≡ total l - 8 = omega arith in
    let limits : limits_of (blank l) ≡ l = simp length-replicate in
    ap₂ ◌++◌ (ap header limits)
    (rw (
      zero_area 10 l.S shape_words no_shape refl,
      zero_area W l.T (table_words l.K) free (zero-table l.K),
      zero_area 5 l.E edge_words no_edge refl,
      replicate-append-replicate (W * l.T),
      replicate-append-replicate (10 * l.S),
      n,
    ))

pub fits-blank : (l : Limits) → fits (blank l) ≡ true
unfolding fits
fits-blank l = every-replicate (room_for l.K) l.T free (le-leb 0 l.K (omega arith))

pub laid-formatted : (l : Limits) → laid_out (formatted l) ≡ true
laid-formatted l = rw (← (blank-words l)) (laid-words (blank l) (fits-blank l))
