-- Each kind of record, laid out and read again: shapes, edges, the entries of a table, tables.
-- Assumes nothing.
use Rattle.std.specs.Prelude.{◌≡◌, refl, true, ℕ, zero, suc, ◌+◌, ◌-◌, ◌*◌, ◌≤◌, eqb, leb, length, get_or, take, drop, replicate}
use Rattle.std.proofs.Common.{sym, ◌∙◌, arith, leb-true, le-leb, length-append, length-drop, drop-cons, drop-drop, take_all}
use Rattle.std.proofs.Math.Path.{ap}
use mathlib.Core.List.{List, [], ◌∷◌}
use Rattle.std.proofs.Math.Nat.{sub-zero}
use Rattle.std.proofs.lemmas.List.{length-map, length-replicate, replicate-append-replicate}
use Rattle.store.specs.Model.{Table, free, used, entries_of}
use Rattle.store.specs.ListLaws.{and_both, every-replicate, always, every-always, zeros→replicate}
use Rattle.store.specs.Layout.{rows, flat, shape_words, read_shape, entry_words, read_entry, edge_words}
use Rattle.store.specs.Layout.{read_edge, count_word, table_width, table_words, read_entries, read_table}
use Rattle.store.specs.Layout.{tidy_table, room_for}
use Rattle.store.specs.Rows.{Written, length-rows, area_length, area_rest, area_back, area_there}

-- ## Shapes, edges and entries

-- The n words from k on, one by one. At a numeral n it computes to them.
abbrev pub one_by_one : List ℕ → (k n : ℕ) → List ℕ
one_by_one ws k zero = []
one_by_one ws k (suc n) = get_or ws k 0 ∷ one_by_one ws (suc k) n

pub read_one_by_one : (ws : List ℕ) (k n : ℕ) → k + n ≤ length ws → one_by_one ws k n ≡ take n (drop k ws)
read_one_by_one ws k zero h = refl
read_one_by_one ws k (suc n) h =
    rw (drop-cons ws k 0 (omega arith))
    (ap (λ (r : List ℕ). get_or ws k 0 ∷ r) (read_one_by_one ws (suc k) n (omega arith)))

read_whole : (ws : List ℕ) (n : ℕ) → length ws ≡ n → one_by_one ws 0 n ≡ ws
read_whole ws n e = read_one_by_one ws 0 n (omega arith) ∙ take_all n ws (omega arith)

pub shapes-written : Written 10 shape_words read_shape always always
shapes-written = record { width = λ s e. refl; back = λ s. refl; there = λ r n e. read_whole r 10 n }

pub edges-written : Written 5 edge_words read_edge always always
edges-written = record { width = λ s e. refl; back = λ s. refl; there = λ r n e. read_whole r 5 n }

pub entries-written : Written 3 entry_words read_entry always always
entries-written = record { width = λ s e. refl; back = λ s. refl; there = λ r n e. read_whole r 3 n }

-- ## Tables

length-table : (K : ℕ) (t : Table)
    → length (table_words K t) ≡ 1 + (3 * length (entries_of t) + 3 * (K - length (entries_of t)))
length-table K t =
    let entries = area_length entries-written (entries_of t) (every-always (entries_of t)) in
    rw (length-append, entries, length-replicate) (omega arith)

table-back : (K : ℕ) (t : Table) → read_table (table_words K t) ≡ t
table-back K free = refl
table-back K (used es) = ap used (area_back entries-written es _ (every-always es))

-- What the test says of a table's words: the count is within K, and the unused entries are zero.
tidy_facts : (K count : ℕ) (ws : List ℕ) → length ws ≡ 3 * K → tidy_table K (count ∷ ws) ≡ true
    → (count ≤ 1 + K) × (drop (3 * (count - 1)) ws ≡ replicate (3 * (K - (count - 1))) 0)
tidy_facts K count ws e h =
    let p = and_both (leb count (1 + K)) h in
    let unused = rw (← (drop-drop (3 * (count - 1)) 1 (count ∷ ws))) at p.1 in
    let n : length (drop (3 * (count - 1)) ws) ≡ 3 * (K - (count - 1)) = rw length-drop (omega arith) in
    (leb-true count (1 + K) p.0, rw n at (zeros→replicate (drop (3 * (count - 1)) ws) unused))

table_there : (K : ℕ) (r : List ℕ) → length r ≡ table_width K → tidy_table K r ≡ true
    → table_words K (read_table r) ≡ r
table_there K [] e h = absurd (omega arith)
table_there K (zero ∷ ws) e h =
    unfold flat in ap (λ (r : List ℕ). 0 ∷ r) (sym (tidy_facts K 0 ws (omega arith) h).1)
table_there K (suc n ∷ ws) e h =
    let f = tidy_facts K (suc n) ws (omega arith) h in
    let m : suc n - 1 ≡ n = omega arith in
    let unused = rw m at f.1 in
    rw (length-map, length-rows, ← unused)
    (ap (λ (r : List ℕ). suc n ∷ r) (area_there entries-written n ws (omega arith) (search every-always)))

pub tables-written : (K : ℕ) → Written (table_width K) (table_words K) read_table (room_for K) (tidy_table K)
tables-written K =
    record {
      width = λ t e. let few = leb-true (length (entries_of t)) K e in length-table K t ∙ omega arith;
      back = table-back K;
      there = table_there K;
    }

-- ## Room and the test of a table's words

pub count-less-one : (t : Table) → count_word t - 1 ≡ length (entries_of t)
count-less-one free = refl
count-less-one (used es) = omega arith

-- A table that has room is laid out in tidy words.
pub room_tidy : (K : ℕ) (t : Table) → room_for K t ≡ true → tidy_table K (table_words K t) ≡ true
room_tidy K t e =
    let es = entries_of t in
    let few = leb-true (length es) K e in
    let one = count-less-one t in
    rw (
      le-leb (count_word t) (1 + K) (omega arith),
      one,
      ← drop-drop,
      area_rest entries-written es _ (every-always es),
    )
    (every-replicate (eqb 0) (3 * (K - length es)) 0 refl)

read_count : (count : ℕ) (ws : List ℕ) → length (entries_of (read_entries count ws)) ≡ count - 1
read_count zero ws = refl
read_count (suc n) ws = length-map (rows 3 n ws) read_entry ∙ length-rows 3 n ws ∙ omega arith

-- A table read from tidy words has room.
pub tidy_room : (K : ℕ) (r : List ℕ) → tidy_table K r ≡ true → room_for K (read_table r) ≡ true
tidy_room K r h =
    let few = leb-true (get_or r 0 0) (1 + K) (and_both (leb (get_or r 0 0) (1 + K)) h).0 in
    le-leb _ K (rw read_count (omega arith))

-- A table's words are no fewer than its width.
pub wide_table : (K : ℕ) (t : Table) → table_width K ≤ length (table_words K t)
wide_table K t = rw length-table (omega arith)

-- A table whose words are no more than its width has room.
pub narrow_room : (K : ℕ) (t : Table) → leb (length (table_words K t)) (table_width K) ≡ true
    → room_for K t ≡ true
narrow_room K t e =
    let n = length-table K t in
    let h = leb-true (length (table_words K t)) (table_width K) e in
    le-leb _ K (omega arith)

-- ## Free tables

pub zero-table : (K : ℕ) → table_words K free ≡ replicate (table_width K) 0
unfolding flat
zero-table K = replicate-append-replicate 1 (3 * (K - 0)) 0 ∙ rw sub-zero
