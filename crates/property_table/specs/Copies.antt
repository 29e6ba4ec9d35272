-- Entries of one table appended to another, one after the other.
-- Assumes nothing.
use Rattle.std.specs.Prelude.{false, List, [], ◌∷◌, ◌++◌, ◌≢◌, ◌≡◌, refl, ℕ, ◌+◌, ◌-◌, ◌^◌, ◌≤◌, ◌<◌, length, get_or, take, drop, Option}
use Rattle.std.proofs.Common.{sym, ◌∙◌, ap, add-one, arith, drop_of_length-le, drop-cons, get_or-take, length-take-le}
use Rattle.slot.specs.Slots.{slot_of, next_index}
use Rattle.slot.specs.declared.Slot.{Slot}
use Rattle.store.specs.Model.{used, Model, free_table, table_at, put_table, entries_of, no_entry}
use Rattle.store.specs.Layout.{parse}
use Rattle.store.specs.Image.{Formed, Place, Becomes, unchanged, and_then, put_table_sizes}
use Rattle.store.specs.Tables.{entries_fit, table-put, table_other, table-put-again, table-put-back, put_then}
use Rattle.store.specs.declared.Entry.{Entry}
use Rattle.rules.specs.Shapes.{entry, widths, appended}
use Rattle.theorems.specs.Entries.{length-appended}
use Rattle.theorems.specs.Facts.{used_table}
use Rattle.property_table.specs.Slotted.{Slotted, slotted_appended, byte_at, slot_before, next_slot}
use Rattle.property_table.specs.Slotted.{widths-few, slotted_take, extended, extended_none}

-- The entries of a table of an image.
abbrev pub entries_in : List ℕ → (table : ℕ) → List Entry
entries_in image t = entries_of (table_at (parse image) t)

-- "K 1 to 2,048": so that no count of entries wraps.
pub entries-few : {image : List ℕ} → Formed image → (t : ℕ) → length (entries_in image t) ≤ 2048
entries-few f t =
    let fit = entries_fit f t in
    let keys = f.limited.keys in
    omega arith

-- ## One entry appended

module _ {es : List Entry} {previous : Option Slot} (slotted : Slotted es)
    (last : previous ≡ slot_before (length es) es) where
  next_index_lem : next_index previous ≡ widths es
  next_index_lem = ap next_index last ∙ next_slot es slotted

  -- The next slot index does not wrap,
  pub index_fits : length es ≤ 2048 → next_index previous < 2 ^ 32
  index_fits few =
      let index = next_index_lem in
      let wide = widths-few es in
      omega arith

  -- and is that of the entry appended.
  pub appended_slot : (m : Model) (t k a : ℕ) {before after : List ℕ} {s : Slot}
      → s ≡ slot_of (next_index previous) a
      → Becomes before after (put_table m t (used (es ++ entry k a s.index.0 ∷ [])))
      → Becomes before after (put_table m t (used (appended es k a)))
  appended_slot m t k a its b = rw (← next_index_lem, ← ap (λ (s : Slot). s.index.0) its) b

-- ## Entries appended

-- Two tables, one to be read and another to be written.
pub record Apart (m : Model) (from to : ℕ) : Type 0 where
  pub source : Place (length m.tables) from
  pub target : Place (length m.tables) to
  pub differ : from ≢ to
  pub slotted : Slotted (entries_of (table_at m from))

-- What it takes to append the entries from position `start` on, below `end`.
pub record Copyable (m : Model) (from to start end : ℕ) : Type 0 where
  pub tables : Apart m from to
  pub in_use : free_table (table_at m to) ≡ false
  pub slotted : Slotted (entries_of (table_at m to))
  pub ordered : start ≤ end
  pub inside : end ≤ length (entries_of (table_at m from))
  pub room : length (entries_of (table_at m to)) + (end - start) ≤ m.K

abbrev pub copied : Model → (from to start end : ℕ) → Model
copied m from to start end =
    put_table m to
    (used (extended (entries_of (table_at m to)) (drop start (take end (entries_of (table_at m from))))))

-- Once entries gs were put into the one table, the other is as it was.
module _ {m : Model} {from to : ℕ} (t : Apart m from to) (gs : List Entry) where
  apart_put : Apart (put_table m to (used gs)) from to
  apart_put =
      let long = (put_table_sizes m to (used gs)).tables in
      record {
        source = rw long t.source;
        target = rw long t.target;
        differ = t.differ;
        slotted = rw (table_other m to (used gs) t.differ) t.slotted;
      }

  copyable_put : {start end : ℕ} → Slotted gs → start ≤ end → end ≤ length (entries_of (table_at m from))
      → length gs + (end - start) ≤ m.K → Copyable (put_table m to (used gs)) from to start end
  copyable_put slots ordered inside room =
      let its = table-put m to (used gs) t.target in
      record {
        tables = apart_put;
        in_use = rw its refl;
        slotted = rw its slots;
        ordered = ordered;
        inside = rw (table_other m to (used gs) t.differ) inside;
        room = rw (its, (put_table_sizes m to (used gs)).keys) room;
      }

  copied-put : (start end : ℕ)
      → copied (put_table m to (used gs)) from to start end
      ≡ put_table m to (used (extended gs (drop start (take end (entries_of (table_at m from))))))
  copied-put start end =
      rw (table-put-again, table-put m to (used gs) t.target, table_other m to (used gs) t.differ)

-- One entry appended leaves one less to append.
module _ {m : Model} {from to i end : ℕ} (c : Copyable m from to i end) (more : i < end) where
  abbrev es : List Entry
  es = entries_of (table_at m from)

  abbrev fs : List Entry
  fs = entries_of (table_at m to)

  abbrev grown : List Entry
  grown = appended fs (get_or es i no_entry).key (get_or es i no_entry).attributes

  one_less : Copyable (put_table m to (used grown)) from to (i + 1) end
  one_less =
      let room = c.room in
      let longer : length grown ≡ length fs + 1 = length-appended fs _ _ in
      copyable_put c.tables grown (slotted_appended _ _ c.slotted (byte_at c.tables.slotted i))
      (omega arith) c.inside (omega arith)

  same_copy : copied (put_table m to (used grown)) from to (i + 1) end ≡ copied m from to i end
  same_copy =
      let inside = c.inside in
      let long = length-take-le end es inside in
      copied-put c.tables grown (i + 1) end
      ∙ rw (add-one, drop-cons (take end es) i no_entry (omega arith)) (rw (get_or-take end es i no_entry more))

-- A loop that appends them, at i.
pub record Copying (before : List ℕ) (from to start end i : ℕ) (now : List ℕ) : Type 0 where
  pub ready : Copyable (parse now) from to i end
  pub so_far : Becomes before now (parse now)
  pub rest : copied (parse now) from to i end ≡ copied (parse before) from to start end

module _ {before : List ℕ} {from to start end : ℕ} where
  pub copy_start : Formed before → Copyable (parse before) from to start end
      → Copying before from to start end start before
  copy_start f c = record { ready = c; so_far = unchanged f; rest = refl }

  module _ {i : ℕ} {now : List ℕ} (d : Copying before from to start end i now) where
    pub copy_turn : {new : List ℕ} → i < end
        → Becomes now new
        (put_table (parse now) to
        (used (appended (entries_in now to) (get_or (entries_in now from) i no_entry).key
        (get_or (entries_in now from) i no_entry).attributes)))
        → Copying before from to start end (i + 1) new
    copy_turn {new} h b =
        record {
          ready = rw b.parsed (one_less d.ready h);
          so_far = rw b.parsed (and_then d.so_far b);
          rest = rw b.parsed (same_copy d.ready h ∙ d.rest);
        }

    pub copy_done : end ≤ i → Becomes before now (copied (parse before) from to start end)
    copy_done h =
        let inside = d.ready.inside in
        let long = length-take-le end (entries_in now from) inside in
        let none = drop_of_length-le (take end (entries_in now from)) {i = i} (omega arith) in
        let its = used_table (table_at (parse now) to) d.ready.in_use in
        let own = rw its at (table-put-back (parse now) to) in
        let whole : parse now ≡ copied (parse before) from to start end = sym (rw none own) ∙ d.rest in
        rw (← whole) d.so_far

-- ## Copies to a free table

-- Entries gs were put into the target; more of the source's follow.
module _ {before now : List ℕ} {from to : ℕ} (t : Apart (parse before) from to) (gs : List Entry)
    (b : Becomes before now (put_table (parse before) to (used gs))) where
  pub copyable_after : {start end : ℕ} → Slotted gs → start ≤ end → end ≤ length (entries_in before from)
      → length gs + (end - start) ≤ (parse before).K → Copyable (parse now) from to start end
  copyable_after slots ordered inside room = rw b.parsed (copyable_put t gs slots ordered inside room)

  pub appended-after : (k a : ℕ) {after : List ℕ}
      → Becomes now after (put_table (parse now) to (used (appended (entries_in now to) k a)))
      → Becomes before after (put_table (parse before) to (used (appended gs k a)))
  appended-after k a more =
      let table = ap (λ (m : Model). table_at m to) b.parsed in
      let its = table ∙ table-put (parse before) to (used gs) t.target in
      put_then (parse before) to (used gs) _ b (rw its at more)

  pub copied-after : (start end : ℕ) {after : List ℕ}
      → Becomes now after (copied (parse now) from to start end)
      → Becomes before after
      (put_table (parse before) to (used (extended gs (drop start (take end (entries_in before from))))))
  copied-after start end more = and_then b (rw (b.parsed, copied-put t gs start end) at more)

  -- What is left of the source has room.
  pub rest_copyable : Formed before → Slotted gs → (start n : ℕ) → start ≤ n
      → n ≡ length (entries_in before from) → length gs ≤ start → Copyable (parse now) from to start n
  rest_copyable f slots start n ordered all few =
      let fit = entries_fit f from in
      copyable_after slots ordered (omega arith) (omega arith)

pub none_slotted : Slotted []
none_slotted = record { slots = refl; bytes = refl }

-- What is right already stays as it is.
first-entries : {es : List Entry} → Slotted es → (n : ℕ) → extended [] (take n es) ≡ take n es
first-entries {es} s n = extended_none (take n es) ∙ (slotted_take n s).slots

pub copied-first : {before now after : List ℕ} {from to : ℕ} (t : Apart (parse before) from to)
    → Becomes before now (put_table (parse before) to (used [])) → (n : ℕ)
    → Becomes now after (copied (parse now) from to 0 n)
    → Becomes before after (put_table (parse before) to (used (take n (entries_in before from))))
copied-first t b n more = rw (first-entries t.slotted n) at (copied-after t [] b 0 n more)
