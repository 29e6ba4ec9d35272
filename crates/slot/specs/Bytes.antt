-- The attribute definitions, run at every byte: one computed test.
-- Each is held against sums of the names' numbers, so that nothing here leans on the bit operations.
-- Assumes nothing.
use Rattle.std.specs.Prelude.{Bool, true, ◌&&◌, ◌||◌, ◌≡◌, refl, ℕ, zero, suc, ◌+◌, ◌*◌, eqb}
use Rattle.std.specs.Bool.{beq}
use Rattle.std.specs.Prelude.{if◌then◌else◌}
use Rattle.slot.specs.Attributes.{present, good_attributes, accessor, width, merged}
use Rattle.slot.specs.Attributes.{not_cacheable_if_prototype, cacheable}

-- The test passes at each number below n.
abbrev each : ℕ → (ℕ → Bool) → Bool
each zero test = true
each (suc n) test = test n && each n test

-- The numbers of those names that are present, summed.
abbrev counted : (bit byte : ℕ) → ℕ
counted bit byte = if present bit byte then bit else 0

abbrev stored : ℕ → ℕ
stored byte = counted 1 byte + counted 2 byte + counted 4 byte + counted 8 byte + counted 16 byte

abbrev cache_bits : ℕ → ℕ
cache_bits byte = counted 32 byte + counted 64 byte + counted 128 byte

-- A byte is the sum of its names; a stored value has no cache bit; 24 is GET and SET, 8 and 16 one of them.
abbrev name_test : ℕ → Bool
name_test byte =
    eqb (stored byte + cache_bits byte) byte
    && beq (good_attributes byte) (eqb (cache_bits byte) 0)
    && eqb (width byte) (if eqb (counted 8 byte + counted 16 byte) 0 then 1 else 2)

-- Bit 32 set also sets 128; cacheable is 64 without 128.
abbrev cache_test : ℕ → Bool
cache_test byte =
    let marked = not_cacheable_if_prototype byte in
    eqb (counted 128 marked) (if present 32 byte || present 128 byte then 128 else 0)
    && eqb (stored marked + counted 32 marked + counted 64 marked) (stored byte + counted 32 byte + counted 64 byte)
    && beq (cacheable byte) (eqb (counted 64 byte + counted 128 byte) 64)

-- The merge keeps the old cache bits, takes the slot's names and is found.
abbrev merge_test : (old slot : ℕ) → Bool
merge_test old slot =
    let new = merged old slot in
    eqb (stored new) slot && eqb (cache_bits new) (counted 32 old + 64 + counted 128 old)

-- Every byte as the old one, and every stored value as the slot's beside each mixture of cache bits.
pub bytes_right :
    (each 256 (λ byte. name_test byte && cache_test byte && merge_test byte 0 && merge_test byte 31) ≡ true)
    × (each 8 (λ bits. each 32 (merge_test (32 * bits))) ≡ true)
unfolding present accessor width not_cacheable_if_prototype
bytes_right = (refl, refl)
