-- One entry of a table where it lies: read, replaced, and added after the last.
-- Assumes nothing.
use Rattle.std.specs.Prelude.{◌≡◌, refl, false, List, [], ◌∷◌, ◌++◌, map, ◌≢◌, ℕ, suc, ◌+◌, ◌-◌, ◌*◌, ◌≤◌, ◌<◌, eqb, length, get_or, set, replicate}
use Rattle.std.proofs.Math.Path.{sym, ap}
use Rattle.std.proofs.Common.{◌∙◌, true≢false, append_assoc, not-suc-le-zero, add-zero, add-one, arith, length-append, length-set}
use Rattle.std.proofs.Math.Bool.{true}
use borrow.Author.Tests.{leb-true, le-leb, ne_eqb}
use borrow.Rule.Slice.PartMut.{mid_of, put_mid, set_mid_at}
use Rattle.std.proofs.lemmas.List.{length-replicate}
use Rattle.std.proofs.Math.Seq.{set-append_seam}
use Rattle.store.specs.Model.{Table, free, used, Model, limits_of, free_table, table_at, put_table}
use Rattle.store.specs.Model.{entries_of, no_entry}
use Rattle.store.specs.PlaceLaws.{at_put_same, at_put_other, put-again, put_back}
use Rattle.store.specs.ListLaws.{every-always, every-place}
use Rattle.store.specs.Layout.{flat, entry_words, count_word, table_width, table_words, room_for, fits}
use Rattle.store.specs.Layout.{parse}
use Rattle.store.specs.Layout.{tables_offset}
use Rattle.store.specs.Records.{entries-written, tables-written, zero-table}
use Rattle.store.specs.Spots.{spot, part_lent, area_read, area_write}
use Rattle.store.specs.Image.{Lays, Formed, Place, Row, Becomes, table_row, row_put, becomes}
use Rattle.store.specs.Image.{put_table_sizes}
use Rattle.store.specs.Image.{and_then}
use Rattle.store.specs.declared.Entry.{Entry}

-- A table in use has one more in its count word than it has entries.
pub used_count : (t : Table) → free_table t ≡ false → count_word t ≡ suc (length (entries_of t))
used_count free e = absurd (true≢false e)
used_count (used es) e = refl

pub count_free : (t : Table) → eqb (count_word t) 0 ≡ free_table t
count_free free = refl
count_free (used es) = ne_eqb (suc (length es)) 0 (λ e. absurd (omega (arith, e)))

module _ {ws : List ℕ} {m : Model} (l : Lays ws m) (t : ℕ) where
  -- No table has more entries than there is room for.
  pub entries_fit : length (entries_of (table_at m t)) ≤ m.K
  unfolding fits table_at
  entries_fit =
      let none : room_for m.K free ≡ true = le-leb 0 m.K (omega arith) in
      leb-true _ m.K (every-place free (room_for m.K) m.tables none l.roomy t)

  pub table_long : length (table_words m.K (table_at m t)) ≡ table_width m.K
  table_long = (tables-written m.K).width (table_at m t) (le-leb _ m.K entries_fit)

-- ## Reading

pub entry_in : (K : ℕ) (t : Table) (i : ℕ) {table part : List ℕ} → i < length (entries_of t)
    → table ≡ table_words K t → part ≡ mid_of (spot 1 3 (i + 1)) 3 table
    → part ≡ entry_words (get_or (entries_of t) i no_entry)
entry_in K t i h e p =
    let es = entries_of t in
    p
    ∙ rw (e, add-one)
    (area_read entries-written (count_word t ∷ []) es _ 1 (suc i) no_entry refl (every-always es)
    (omega arith) h)

-- ## Writing

-- A table's words with an entry at a position, and a count word.
unfoldable pub edited : List ℕ → (position : ℕ) → Entry → (count : ℕ) → List ℕ
edited ws i x count = set (put_mid (spot 1 3 (i + 1)) 3 ws (entry_words x)) 0 count

-- As code does it: a part lent from a to b and put back, and the count word stored.
pub entry-stored : (ws : List ℕ) (i count : ℕ) (x : Entry) {a b : ℕ} {new : List ℕ}
    → a ≡ spot 1 3 (i + 1) → b ≡ a + 3 → new ≡ entry_words x
    → set (put_mid a (b - a) ws new) 0 count ≡ edited ws i x count
unfolding edited
entry-stored ws i count x {a} {b} e ends n = let many : b - a ≡ 3 = omega arith in rw (many, e, n)

edit : (es : List Entry) (rest : List ℕ) (i old new : ℕ) (x : Entry) → i < length es
    → edited (old ∷ (flat (map entry_words es) ++ rest)) i x new
    ≡ new ∷ (flat (map entry_words (set es i x)) ++ rest)
unfolding edited
edit es rest i old new x h =
    rw add-one
    (ap (λ (ws : List ℕ). set ws 0 new)
    (area_write entries-written (old ∷ []) es rest 1 (suc i) x refl (every-always es) (omega arith) h))

entry_set : (K : ℕ) (t : Table) (i : ℕ) (x : Entry) → i < length (entries_of t)
    → edited (table_words K t) i x (count_word t) ≡ table_words K (used (set (entries_of t) i x))
entry_set K free i x h = absurd (not-suc-le-zero h)
entry_set K (used es) i x h = edit es _ i _ _ x h ∙ rw length-set

flat-last : (es : List Entry) (x : Entry)
    → flat (map entry_words (es ++ x ∷ [])) ≡ flat (map entry_words es) ++ entry_words x
unfolding flat
flat-last [] x = refl
flat-last (e ∷ es) x = ap (λ (ws : List ℕ). entry_words e ++ ws) (flat-last es x)

-- The first unused entry is one of zeros.
unused : (K : ℕ) (es : List Entry) → length es < K
    → flat (map entry_words es) ++ replicate (3 * (K - length es)) 0
    ≡ flat (map entry_words (es ++ no_entry ∷ [])) ++ replicate (3 * (K - suc (length es))) 0
unused K es h =
    let three : 3 * (K - length es) ≡ suc (suc (suc (3 * (K - suc (length es))))) = omega arith in
    rw (flat-last es no_entry, append_assoc (flat (map entry_words es)), three)

one_more : (es : List Entry) (x : Entry) → length (es ++ x ∷ []) ≡ suc (length es)
one_more es x = length-append es (x ∷ []) ∙ omega arith

entry-added : (K : ℕ) (t : Table) (x : Entry) → free_table t ≡ false → length (entries_of t) < K
    → edited (table_words K t) (length (entries_of t)) x (suc (count_word t))
    ≡ table_words K (used (entries_of t ++ x ∷ []))
entry-added K free x u h = absurd (true≢false u)
entry-added K (used es) x u h =
    let n = length es in
    let longer = one_more es no_entry in
    ap (λ (ws : List ℕ). edited (suc n ∷ ws) n x (suc (suc n))) (unused K es h)
    ∙ edit (es ++ no_entry ∷ []) _ n _ _ x (omega arith)
    ∙ rw (set-append_seam es no_entry [] x, one_more es x)

-- ## In the image

-- With an edit of its words the table is any that has the words then.
pub record Edited (ws after : List ℕ) (t i : ℕ) (x : Entry) (count : ℕ) : Type 0 where
  pub becomes_any : (y : Table)
      → edited (table_words (parse ws).K (table_at (parse ws) t)) i x count ≡ table_words (parse ws).K y
      → length (entries_of y) ≤ (parse ws).K → Becomes ws after (put_table (parse ws) t y)

module _ {ws : List ℕ} (f : Formed ws) {t : ℕ} {after : List ℕ} {i : ℕ} {x : Entry} where
  pub set_becomes : {count : ℕ} → i < length (entries_of (table_at (parse ws) t))
      → count ≡ count_word (table_at (parse ws) t) → Edited ws after t i x count
      → Becomes ws after (put_table (parse ws) t (used (set (entries_of (table_at (parse ws) t)) i x)))
  set_becomes h c edit =
      let its = table_at (parse ws) t in
      edit.becomes_any (used (set (entries_of its) i x)) (rw c (entry_set (parse ws).K its i x h))
      (rw length-set (entries_fit f t))

  pub added_becomes : {old new : ℕ} → free_table (table_at (parse ws) t) ≡ false
      → length (entries_of (table_at (parse ws) t)) < (parse ws).K
      → old ≡ count_word (table_at (parse ws) t) → i ≡ old - 1 → new ≡ old + 1 → Edited ws after t i x new
      → Becomes ws after (put_table (parse ws) t (used (entries_of (table_at (parse ws) t) ++ x ∷ [])))
  added_becomes {old} {new} u h c position next edit =
      let its = table_at (parse ws) t in
      let one = used_count its u in
      let last : i ≡ length (entries_of its) = omega arith in
      let more : new ≡ suc (count_word its) = omega arith in
      edit.becomes_any (used (entries_of its ++ x ∷ []))
      (rw (last, more) (entry-added (parse ws).K its x u h)) (rw one_more h)

module _
    {ws : List ℕ}
    (f : Formed ws)
    {t : ℕ}
    (p : Place (length (parse ws).tables) t)
    {o w a b : ℕ}
    (starts : o ≡ tables_offset (limits_of (parse ws)))
    (wide : w ≡ table_width (parse ws).K)
    (from : a ≡ spot o w t)
    (to : b ≡ a + w)
  where
    its_row : Row (table_words (parse ws).K) w (spot o w t) ws (table_at (parse ws) t) (put_table (parse ws) t)
    its_row = table_row f starts wide p

    -- The part from a to b is the table's words.
    its-words : mid_of a (b - a) ws ≡ table_words (parse ws).K (table_at (parse ws) t)
    its-words = part_lent ws w from to ∙ its_row.read

    -- Each entry that there is room for lies in that part.
    pub entry-inside : (i : ℕ) → i < (parse ws).K
        → (i < 2048) × (spot 1 3 (i + 1) + 3 ≤ length (mid_of a (b - a) ws))
    entry-inside i h =
        let few = f.limited.keys in
        let long = ap length its-words ∙ table_long f t in
        (omega arith, omega arith)

    pub edit_becomes : (i count : ℕ) (x : Entry) {new : List ℕ} → new ≡ edited (mid_of a (b - a) ws) i x count
        → Edited ws (put_mid a (b - a) ws new) t i x count
    edit_becomes i count x n =
        record {
          becomes_any = λ y h few.
              let words = n ∙ ap (λ (part : List ℕ). edited part i x count) its-words ∙ h in
              let long = (tables-written (parse ws).K).width y (le-leb _ (parse ws).K few) ∙ sym wide in
              becomes f (row_put its_row y from to words long) (put_table_sizes (parse ws) t y);
        }

    -- The words of a free table are zero, and so are those of an empty one but for the first.
    pub started_becomes : table_at (parse ws) t ≡ free
        → Becomes ws (set ws a 1) (put_table (parse ws) t (used []))
    unfolding flat
    started_becomes u =
        let words = its_row.read ∙ ap (table_words (parse ws).K) u in
        let stored = set_mid_at (spot o w t) w 0 ws 1 (rw words (omega arith)) in
        let fits = le-leb 0 (parse ws).K (omega arith) in
        let long = (tables-written (parse ws).K).width (used []) fits ∙ sym wide in
        let all = rw (words, add-zero) at stored in
        becomes f (rw (from, ← all) (its_row.write (used []) long)) (put_table_sizes (parse ws) t (used []))

    pub cleared_becomes : {new : List ℕ} → new ≡ replicate (length (mid_of a (b - a) ws)) 0
        → Becomes ws (put_mid a (b - a) ws new) (put_table (parse ws) t free)
    cleared_becomes n =
        let long = ap length its-words ∙ table_long f t in
        let words = n ∙ ap (λ (many : ℕ). replicate many 0) long ∙ sym (zero-table (parse ws).K) in
        let wide_zeros = ap length (zero-table (parse ws).K) ∙ length-replicate _ 0 ∙ sym wide in
        becomes f (row_put its_row free from to words wide_zeros)
        (put_table_sizes (parse ws) t free)

-- ## A table that was put

pub table-put : (m : Model) (t : ℕ) (x : Table) → Place (length m.tables) t
    → table_at (put_table m t x) t ≡ x
unfolding table_at put_table
table-put m t x p = at_put_same m.tables t x free p.low p.high

pub table_other : (m : Model) (t : ℕ) (x : Table) {other : ℕ} → other ≢ t
    → table_at (put_table m t x) other ≡ table_at m other
unfolding table_at put_table
table_other m t x {other} h = at_put_other m.tables t other x free h

pub table-put-again : (m : Model) (t : ℕ) (x y : Table) → put_table (put_table m t x) t y ≡ put_table m t y
unfolding put_table
table-put-again m t x y = rw put-again

pub table-put-back : (m : Model) (t : ℕ) → put_table m t (table_at m t) ≡ m
unfolding table_at put_table
table-put-back m t = rw put_back

-- A change of the table after another one leaves the last.
pub put_then : {a b c : List ℕ} (m : Model) (t : ℕ) (x y : Table) → Becomes a b (put_table m t x)
    → Becomes b c (put_table (parse b) t y) → Becomes a c (put_table m t y)
put_then m t x y first second =
    rw (← (table-put-again m t x y), ← first.parsed) (and_then first second)
