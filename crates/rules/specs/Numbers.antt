-- Document 01, "Numbers that stand for things": keys. Attributes are the crate slot's.
-- Assumes nothing.
use Rattle.std.specs.Prelude.{Bool, ℕ, ◌/◌, ◌^◌, ltb}

-- "A key is 32 bits: kind × 2^30 + id. Kind 0 string, 1 symbol, 2 index; kind 3 is bad."
abbrev pub kind_of : ℕ → ℕ
kind_of key = key / 2 ^ 30

abbrev pub good_key : ℕ → Bool
good_key key = ltb (kind_of key) 3
