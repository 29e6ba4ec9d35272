-- Entries whose slots are right: the slot index that comes next, and entries laid one after the other.
-- Assumes nothing.
use Rattle.std.specs.Prelude.{Bool, true, false, List, [], ◌∷◌, ◌++◌, ◌≢◌, ◌≡◌, refl, ℕ, zero, suc, ◌+◌, ◌-◌, ◌*◌, ◌≤◌, ◌<◌, length, get_or, take, None, Option, Some}
use Rattle.std.proofs.Common.{append_assoc, append-nil, sym, ◌∙◌, ap, not-suc-le-zero, le_of_suc-le-suc, add_assoc, add-zero, zero-add, arith, leb-true, le-leb}
use Rattle.std.proofs.Math.Seq.{take-length}
use Rattle.std.specs.Prelude.{if◌then◌else◌}
use Rattle.slot.specs.Attributes.{most_stored, good_attributes, accessor, width}
use Rattle.slot.specs.Slots.{slot_of, next_index}
use Rattle.slot.specs.declared.Slot.{Slot}
use Rattle.store.specs.Lists.{every}
use Rattle.store.specs.Model.{no_entry}
use Rattle.store.specs.ListLaws.{and_both, both-and, every_take, every_append, every-place, every_then}
use Rattle.store.specs.declared.Entry.{Entry}
use Rattle.rules.specs.Numbers.{good_key}
use Rattle.rules.specs.Shapes.{entry, widths, appended, laid}
use Rattle.rules.specs.Sound.{good_entries}
use Rattle.theorems.specs.Entries.{good_keys, good_slots, laid_self}

abbrev pub good_byte : Entry → Bool
good_byte e = good_attributes e.attributes

-- "attributes up to 31, and each slot index equal to the sum of the widths before it": to work the slots out
-- changes nothing.
pub record Slotted (es : List Entry) : Type 0 where
  pub slots : laid 0 es ≡ es
  pub bytes : every good_byte es ≡ true

-- ## Slots worked out

laid-append : (n : ℕ) (xs ys : List Entry) → laid n (xs ++ ys) ≡ laid n xs ++ laid (n + widths xs) ys
laid-append n [] ys = rw add-zero
laid-append n (x ∷ xs) ys =
    ap (λ (zs : List Entry). entry x.key x.attributes n ∷ zs)
    (laid-append (n + width x.attributes) xs ys ∙ rw add_assoc)

laid-take : (n k : ℕ) (es : List Entry) → laid n (take k es) ≡ take k (laid n es)
laid-take n zero es = refl
laid-take n (suc k) [] = refl
laid-take n (suc k) (e ∷ es) =
    let rest = laid-take (n + width e.attributes) k es in
    ap (λ (zs : List Entry). entry e.key e.attributes n ∷ zs) rest

widths-laid : (n : ℕ) (es : List Entry) → widths (laid n es) ≡ widths es
widths-laid n [] = refl
widths-laid n (e ∷ es) =
    let wide = width e.attributes in
    ap (λ (others : ℕ). wide + others) (widths-laid (n + wide) es)

-- ## Which entries are slotted

pub good_slotted : (es : List Entry) → good_entries es ≡ true → Slotted es
good_slotted es h =
    record {
      slots = laid_self 0 es (good_slots es h);
      bytes = every_then (λ e p. (and_both (good_key e.key) p).1) es (good_keys es h).each;
    }

pub slotted_take : (n : ℕ) {es : List Entry} → Slotted es → Slotted (take n es)
slotted_take n {es} s =
    record { slots = laid-take 0 n es ∙ ap (take n) s.slots; bytes = every_take good_byte n es s.bytes }

pub slotted_appended : {es : List Entry} (k a : ℕ) → Slotted es → a ≤ most_stored → Slotted (appended es k a)
slotted_appended {es} k a s low =
    record {
      slots = laid-append 0 es _ ∙ rw s.slots (ap (λ (n : ℕ). es ++ entry k a n ∷ []) (omega arith));
      bytes = every_append good_byte es _ s.bytes (both-and (le-leb a most_stored low) refl);
    }

pub byte_at : {es : List Entry} → Slotted es → (p : ℕ) → (get_or es p no_entry).attributes ≤ most_stored
byte_at {es} s p = leb-true _ most_stored (every-place no_entry good_byte es refl s.bytes (suc p))

-- ## The next slot index

abbrev pub slot_in : Entry → Slot
slot_in e = slot_of e.slot.0 e.attributes

-- The slot before position n; the first has none.
abbrev pub slot_before : (n : ℕ) → List Entry → Option Slot
slot_before zero es = None
slot_before (suc n) es = Some (slot_in (get_or es n no_entry))

pub last_slot : (es : List Entry) {n : ℕ} {e : Entry} {s : Slot} → n ≡ length es → n ≢ 0
    → e ≡ get_or es (n - 1) no_entry → s ≡ slot_in e → Some s ≡ slot_before (length es) es
last_slot es {n} count some its slot =
    let more : length es ≡ suc (n - 1) = omega arith in
    rw (more, slot, its)

laid_next : (m n : ℕ) (es : List Entry) → n < length es
    → next_index (slot_before (suc n) (laid m es)) ≡ m + widths (take (suc n) es)
laid_next m n [] l = absurd (not-suc-le-zero l)
laid_next m zero (e ∷ es) l = omega arith
laid_next m (suc n) (e ∷ es) l = laid_next (m + width e.attributes) n es (le_of_suc-le-suc l) ∙ omega arith

-- The last slot index and its width are the sum of all widths.
pub next_slot : (es : List Entry) → Slotted es → next_index (slot_before (length es) es) ≡ widths es
next_slot [] s = refl
next_slot (e ∷ es) s =
    ap (λ (fs : List Entry). next_index (slot_before (length (e ∷ es)) fs)) (sym s.slots)
    ∙ laid_next 0 (length es) (e ∷ es) (omega arith)
    ∙ rw (take-length es) (omega arith)

width_low : (a : ℕ) → width a ≤ 2
unfolding width
width_low a = go (accessor a)
  where
    go : (b : Bool) → (if b then 2 else 1) ≤ 2
    go true = omega arith
    go false = omega arith

pub widths-few : (es : List Entry) → widths es ≤ 2 * length es
widths-few [] = omega arith
widths-few (e ∷ es) = let rest = widths-few es in let one = width_low e.attributes in omega arith

-- ## One entry after the other, with slots worked out anew

abbrev pub extended : List Entry → List Entry → List Entry
extended fs [] = fs
extended fs (e ∷ es) = extended (appended fs e.key e.attributes) es

widths-append : (xs ys : List Entry) → widths (xs ++ ys) ≡ widths xs + widths ys
widths-append [] ys = omega arith
widths-append (x ∷ xs) ys = ap (λ (w : ℕ). width x.attributes + w) (widths-append xs ys) ∙ omega arith

extended-laid : (fs es : List Entry) → extended fs es ≡ fs ++ laid (widths fs) es
extended-laid fs [] = rw append-nil
extended-laid fs (e ∷ es) =
    extended-laid (appended fs e.key e.attributes) es
    ∙ rw (append_assoc fs, widths-append fs)
    (ap (λ (n : ℕ). fs ++ entry e.key e.attributes (widths fs) ∷ laid n es) (omega arith))

-- To extend no entries lays them out,
pub extended_none : (es : List Entry) → extended [] es ≡ laid 0 es
extended_none es = extended-laid [] es

-- and what is laid out goes on.
pub extended_on : (xs ys : List Entry) → extended (laid 0 xs) ys ≡ laid 0 (xs ++ ys)
extended_on xs ys =
    let whole : laid 0 (xs ++ ys) ≡ laid 0 xs ++ laid (widths xs) ys = laid-append 0 xs ys ∙ rw zero-add in
    extended-laid (laid 0 xs) ys ∙ rw (widths-laid 0 xs) (sym whole)
