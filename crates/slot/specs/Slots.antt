-- Document 01, "Numbers that stand for things": the bit of one attribute, and a slot with its index.
-- Assumes nothing.
use Rattle.std.specs.Prelude.{Bool, false, ◌||◌, ℕ, zero, suc, ◌+◌, ◌^◌, eqb, None, Option, Some}
use Rattle.slot.specs.Attributes.{width}
use Rattle.slot.specs.declared.Slot.{Slot}

-- "WRITABLE 1, ENUMERABLE 2, CONFIGURABLE 4, GET 8, SET 16; cache bits PROTOTYPE 32, FOUND 64, NOT_CACHEABLE 128."
-- Each is one of the 8 bits of a byte; here, of the lowest n.
abbrev pub one_bit : (n bit : ℕ) → Bool
one_bit zero bit = false
one_bit (suc n) bit = eqb bit (2 ^ n) || one_bit n bit

-- A slot from its two numbers.
abbrev pub slot_of : (index attributes : ℕ) → Slot
slot_of i a = record { index = record { 0 = i }; attributes = record { 0 = a } }

-- "A slot index counts storage places", "each slot index equal to the sum of the widths before it":
-- the first is 0, and the next is past the width of the one before it.
abbrev pub next_index : Option Slot → ℕ
next_index None = 0
next_index (Some s) = s.index.0 + width s.attributes.0
