-- The rows of a shape's keys, written one after the other.
-- Assumes nothing.
use Rattle.std.specs.Prelude.{List, ◌≡◌, ℕ, suc, ◌+◌, ◌*◌, ◌^◌, ◌≤◌, ◌<◌, length, get_or, take}
use Rattle.std.proofs.Common.{arith, get_or-take, length-take-le}
use Rattle.slot.specs.Attributes.{most_stored}
use Rattle.store.specs.Model.{no_entry}
use Rattle.store.specs.declared.Entry.{Entry}
use Rattle.property_table.specs.Slotted.{Slotted, slotted_take, byte_at, next_slot, widths-few}
use Rattle.drawing.specs.Graph.{row_text, rows_text}
use Rattle.lines.specs.declared.page.Page.{Page}
use Rattle.lines.specs.Pages.{room, Adds}
use Rattle.drawing.specs.Parts.{Adding, one_added, all_added, room_for_one}

abbrev pub row_of : ℕ → Entry → List ℕ
row_of i e = row_text e

-- A slot index is the sum of the widths before it.
slot_low : {es : List Entry} → Slotted es → (i : ℕ) → i < length es → (get_or es i no_entry).slot.0 ≤ 2 * suc i
slot_low {es} s i l =
    let n : length (take (suc i) es) ≡ suc i = length-take-le (suc i) es l in
    let same = get_or-take (suc i) es i no_entry (omega arith) in
    let next = rw (n, same) at (next_slot (take (suc i) es) (slotted_take (suc i) s)) in
    let few = widths-few (take (suc i) es) in
    omega arith

-- So many rows of the first entries are added.
abbrev pub RowsTo : (count : ℕ) → List Entry → (before after : Page) (done : ℕ) → Type 0
RowsTo count es before after done = Adding row_of 0 150 (take count es) before after done

module _ (count : ℕ) (es : List Entry) (inside : count ≤ length es) where
  long : length (take count es) ≡ count
  long = length-take-le count es inside

  module _ {before between : Page} {done : ℕ} (p : RowsTo count es before between done) where
    pub row_room : 150 * count ≤ room before → done < count → 150 ≤ room between
    row_room left l = room_for_one p (rw long left) (rw long l)

    pub row_added : {e : Entry} {after : Page} → done < count → e ≡ get_or es done no_entry
        → Adds between after (row_text e) 150 → RowsTo count es before after (done + 1)
    row_added l read q = one_added p no_entry (rw long l) (rw (get_or-take count es done no_entry l, ← read) q)

    pub rows_added : count ≤ done → Adds before between (rows_text (take count es)) (150 * count)
    unfolding rows_text
    rows_added l = rw long at (all_added p (rw long l))

  -- What a row asks of its entry.
  pub row_fits : {i : ℕ} {e : Entry} → Slotted es → length es ≤ 2048 → i < count → e ≡ get_or es i no_entry
      → (e.attributes ≤ most_stored) × (e.slot.0 + 1 < 2 ^ 32)
  row_fits {i} s few l read =
      rw read (
        byte_at s i,
        (let low = slot_low s i (omega arith) in omega arith),
      )
