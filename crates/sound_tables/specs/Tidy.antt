-- The test of the tables' words: one table, and all of them; and what it says with the header's test.
-- Assumes nothing.
use Rattle.std.specs.Prelude.{◌≡◌, Bool, List, [], ℕ, ◌+◌, ◌≤◌, ◌<◌, length, get_or, take, drop}
use Rattle.std.proofs.Math.Path.{sym}
use Rattle.std.proofs.Common.{ap, ◌∙◌, arith, eqb-true, get_or-take}
use Rattle.std.proofs.Math.Bool.{true}
use borrow.Rule.Slice.PartMut.{mid_of}
use Rattle.store.specs.Spots.{spot}
use Rattle.store.specs.Lists.{every, agree}
use Rattle.store.specs.ListLaws.{and_both, both-and, all-passed, agree→≡}
use Rattle.store.specs.Model.{limits_of}
use Rattle.store.specs.Layout.{limits_in, limit_sentences, good_limits, good_header, header}
use Rattle.store.specs.Layout.{tidy_table, tidy_tables}
use Rattle.store.specs.Layout.{total, laid_out, parse, tables_offset, table_width, rows}
use Rattle.store.specs.ThereAndBack.{limits-parse, fits-parse, words-parse}
use Rattle.store.specs.FreePlaces.{Area, row_at_place}
use Rattle.store.specs.Image.{Formed}
use Rattle.header.specs.HeaderLaws.{within_high}
use Rattle.store.specs.declared.Limits.{Limits}

-- ## One table

-- The table at a place, as code lends it.
pub row_tidy : (o w n : ℕ) (ws : List ℕ) (K : ℕ) {k : ℕ} {row : List ℕ} → k < n
    → row ≡ mid_of (spot o w (k + 1)) w ws
    → tidy_table K row ≡ tidy_table K (get_or (rows w n (drop o ws)) k [])
row_tidy o w n ws K {k} l e = ap (tidy_table K) (e ∙ sym (row_at_place o w n ws k l))

-- ## With the header's test

-- The limits' upper bounds.
record Bounded (l : Limits) : Type 0 where
  shapes : l.S ≤ 65535
  tables : l.T ≤ 65535
  keys : l.K ≤ 2048
  edges : l.E ≤ 65535

bounded : (l : Limits) → good_limits l ≡ true → Bounded l
bounded l e =
    let p = all-passed (limit_sentences l) e in
    record {
      shapes = within_high 1 65535 l.S p.0;
      tables = within_high 1 65535 l.T p.1.0;
      keys = within_high 1 2048 l.K p.1.1.1.0;
      edges = within_high 1 65535 l.E p.1.1.0;
    }

module _ (ws : List ℕ) where
  -- Limits in range, a header that agrees, and tidy tables: the image may be read by its records.
  pub tidy_formed : good_limits (limits_in ws) ≡ true → good_header ws ≡ true → tidy_tables ws ≡ true → Formed ws
  unfolding laid_out
  tidy_formed limits header tidy =
      let laid : laid_out ws ≡ true = both-and header tidy in
      record {
        laid = sym ((words-parse ws).0 laid).0;
        roomy = fits-parse ws laid;
        limited =
            let b : Bounded (limits_of (parse ws)) = rw limits-parse (bounded (limits_in ws) limits) in
            record { shapes = b.shapes; tables = b.tables; keys = b.keys; edges = b.edges };
      }

  module _ (limits : good_limits (limits_in ws) ≡ true) (agrees : good_header ws ≡ true) where
    facts : (take 8 ws ≡ header (limits_in ws)) × (length ws ≡ total (limits_in ws))
    facts =
        let p = and_both (agree (take 8 ws) (header (limits_in ws))) agrees in
        (agree→≡ _ _ p.0, eqb-true _ _ p.1)

    -- The sixth word says where the tables lie: within the image.
    tables_word : get_or ws 5 0 ≡ tables_offset (limits_in ws)
    tables_word = sym (get_or-take 8 ws 5 0 (omega arith)) ∙ ap (λ (r : List ℕ). get_or r 5 0) facts.0

    module _
        {l : Limits}
        {o w : ℕ}
        (read : l ≡ limits_in ws)
        (start : o ≡ get_or ws 5 0)
        (wide : w ≡ table_width l.K)
      where
        pub tables_area : Area ws o w l.T
        tables_area =
            let long = facts.1 in
            let few = (bounded (limits_in ws) limits).tables in
            rw (start, tables_word, wide, read)
            (record { wide = omega arith; few = few; inside = omega arith })

        pub tables_tidy : {r : Bool} → r ≡ every (tidy_table l.K) (rows w l.T (drop o ws))
            → r ≡ tidy_tables ws
        tables_tidy e = e ∙ rw (start, tables_word, wide, read)
