-- Document 01, "Numbers that stand for things": the attribute byte.
-- Every definition is over all bytes.
-- Assumes nothing.
use Rattle.std.specs.Prelude.{Bool, ◌&&◌, ◌||◌, not, ℕ, ◌/◌, ◌%◌, eqb, leb}
use Rattle.std.specs.Int.Bits.{bit_and, bit_or}
use Rattle.std.specs.Prelude.{if◌then◌else◌}

-- "Attributes: WRITABLE 1, ENUMERABLE 2, CONFIGURABLE 4, GET 8, SET 16;
-- cache bits PROTOTYPE 32, FOUND 64, NOT_CACHEABLE 128."
-- A name of these is present in a byte if its bit is set.
unfoldable pub present : (bit byte : ℕ) → Bool
present bit byte = eqb (byte / bit % 2) 1

-- "A stored value is 0 to 31, any mixture."
abbrev pub most_stored : ℕ
most_stored = 31

abbrev pub good_attributes : ℕ → Bool
good_attributes a = leb a most_stored

-- GET or SET or both are present: the attributes of an accessor.
unfoldable pub accessor : ℕ → Bool
accessor a = present 8 a || present 16 a

-- "Width is 2 if GET or SET or both are present, else 1."
unfoldable pub width : ℕ → ℕ
width a = if accessor a then 2 else 1

abbrev pub same_width : ℕ → ℕ → Bool
same_width a b = eqb (width a) (width b)

-- "Merge of cache bits (any bytes): (old AND 224) OR slot OR 64."
abbrev pub merged : (old slot : ℕ) → ℕ
merged old slot = bit_or (bit_or (bit_and old 224) slot) 64

-- "`set_not_cacheable_if_already_prototype`: bit 32 set also sets 128."
unfoldable pub not_cacheable_if_prototype : ℕ → ℕ
not_cacheable_if_prototype a = if present 32 a then bit_or a 128 else a

-- "`is_cacheable`: 64 set, 128 clear."
abbrev pub cacheable : ℕ → Bool
cacheable a = present 64 a && not (present 128 a)
