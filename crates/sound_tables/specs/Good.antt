-- The test of the tables' entries: keys, attributes and slots.
-- Assumes nothing.
use Rattle.std.specs.Prelude.{◌≡◌, refl, Bool, true, false, ◌&&◌, List, ◌∷◌, map, ℕ, suc, ◌+◌, ◌*◌, ◌≤◌, ◌<◌, eqb, length, get_or, set, drop}
use Rattle.std.proofs.Common.{sym, ap, ◌∙◌, add-one, arith, drop-cons}
use Rattle.std.proofs.Math.Bool.{and-false}
use Rattle.std.proofs.lemmas.List.{length-map}
use Rattle.std.proofs.Math.ListN.{get_or-map}
use Rattle.std.specs.Prelude.{if◌then◌else◌}
use Rattle.slot.specs.Attributes.{good_attributes, accessor, width}
use Rattle.store.specs.Lists.{every}
use Rattle.store.specs.Scans.{Scanning, scan, places_scan, table-next}
use Rattle.store.specs.Model.{Table, free, used, Model, no_entry, entries_of, table_at}
use Rattle.store.specs.declared.Entry.{Entry}
use Rattle.distinct.specs.Written.{Written, written_none, written_next}
use Rattle.rules.specs.Numbers.{good_key}
use Rattle.rules.specs.Sound.{on_table, slots_from, good_entries, tables_good}

-- ## Names for parts of the sentence

abbrev pub keys_of : List Entry → List ℕ
keys_of es = map (λ e. e.key) es

abbrev pub good_entry : Entry → Bool
good_entry e = good_key e.key && good_attributes e.attributes

-- All but that the keys are distinct.
abbrev pub entries_right : List Entry → Bool
entries_right es = every good_entry es && slots_from 0 es

-- Room for a table's keys, and to tell them apart.
pub record Roomy (m : Model) (codes room : List ℕ) : Type 0 where
  pub for_codes : m.K ≤ length codes
  pub for_seats : m.K ≤ length room

-- ## Entry by entry

pub narrow : (a : ℕ) → width a ≤ 2
unfolding width
narrow a = go (accessor a)
  where
    go : (b : Bool) → (if b then 2 else 1) ≤ 2
    go true = omega arith
    go false = omega arith

abbrev right_from : ℕ → List Entry → Bool
right_from next es = every good_entry es && slots_from next es

first_right : (e : Entry) (next : ℕ) (es : List Entry)
    → right_from next (e ∷ es)
    ≡ ((good_entry e && eqb e.slot.0 next) && right_from (next + width e.attributes) es)
first_right e next es =
    go (good_entry e) (every good_entry es) (eqb e.slot.0 next) (slots_from (next + width e.attributes) es)
  where
    go : (a b c d : Bool) → ((a && b) && (c && d)) ≡ ((a && c) && (b && d))
    go true true c d = refl
    go true false c d = sym (and-false c)
    go false b c d = refl

-- The entries before are right, their keys are written, and `next` is the sum of their widths.
pub record Right (es : List Entry) (long done next : ℕ) (codes : List ℕ) : Type 0 where
  pub small : next ≤ 2 * done
  pub same : right_from next (drop done es) ≡ entries_right es
  pub written : Written (keys_of es) long done codes

pub right_from_lem : (es : List Entry) {codes : List ℕ} → length es ≤ length codes → Right es (length codes) 0 0 codes
right_from_lem es l =
    record { small = omega arith; same = refl; written = written_none (rw (length-map es _) l) }

module _ {es : List Entry} {codes : List ℕ} {n long done next : ℕ} {e : Entry} (s : Right es long done next codes)
    (many : n ≡ length es) (l : done < n) (read : e ≡ get_or es done no_entry)
  where
    one_more : right_from next (drop done es)
        ≡ ((good_entry e && eqb e.slot.0 next) && right_from (next + width e.attributes) (drop (done + 1) es))
    one_more =
        rw (drop-cons es done no_entry (omega arith), add-one, read)
        (first_right (get_or es done no_entry) next (drop (suc done) es))

    pub entry_next : {b : Bool} {w p : ℕ} → b ≡ (good_entry e && eqb e.slot.0 next) → b ≡ true
        → w ≡ width e.attributes → p ≡ done → Right es long (done + 1) (next + w) (set codes p e.key)
    entry_next f g wide at =
        let small = s.small in
        let narrow_one = narrow e.attributes in
        let long_keys = length-map es (λ (x : Entry). x.key) in
        record {
          small = omega arith;
          same = rw wide (sym (one_more ∙ rw (← f, g)) ∙ s.same);
          written =
              written_next s.written (omega arith) at
              (ap (λ (x : Entry). x.key) read ∙ sym (get_or-map (λ (x : Entry). x.key) es done no_entry));
        }

-- ## One table, and all of them

abbrev pub good_table : ℕ × Table → Bool
good_table p = on_table (λ t es. good_entries es) p

-- A free table has no entries, and so nothing that could be wrong.
pub table-entries : (m : Model) (k : ℕ) {b : Bool} → b ≡ good_entries (entries_of (table_at m (k + 1)))
    → b ≡ good_table (k + 1, get_or m.tables k free)
table-entries m k e =
    e ∙ ap (λ (x : Table). good_entries (entries_of x)) (table-next m k) ∙ go (get_or m.tables k free)
  where
    go : (x : Table) → good_entries (entries_of x) ≡ good_table (k + 1, x)
    go free = refl
    go (used es) = refl

pub tables-from : (m : Model) → Scanning (places_scan free good_table m.tables) 0 (tables_good m)
unfolding tables_good
tables-from m = scan (places_scan free good_table m.tables) 0 (omega arith)
