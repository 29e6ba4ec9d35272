-- The law of a mask of one bit, at every bit and every number: what it leaves is zero exactly where the bit is absent.
-- Assumes nothing.
use mathlib.Core.Path.{◌≡◌}
use mathlib.Core.Bool.{not}
use mathlib.Core.Logic.{dite}
use Prim.Native.Nat.{ℕ, zero, suc, ◌*◌, ◌/◌, ◌%◌, ◌^◌, ◌-◌, ◌+◌, ◌<◌}
use native.Mathlib.Nat.{one-mul, zero-mul, mod-lt}
use native.Mathlib.Decide.{ℕ_discrete}
use native.Mathlib.Omega.{arith}
use lib.Bits.{bit_and, and_high}
use lib.Dec.{T, eqb, lit<}
use lib.Pow.{pow_pos, pow-add}
use borrow.Author.Tests.{ne_eqb}
use Rattle.slot.specs.Attributes.{present}
use Rattle.slot.specs.Slots.{one_bit}

-- A binary digit d at its place, p, is not zero exactly where d is 1.
digit : (d p : ℕ) → d < 2 → 0 < p → not (eqb (d * p) 0) ≡ eqb d 1
digit zero p h q = rw zero-mul
digit (suc zero) p h q = rw (one-mul, ne_eqb p 0 (λ e. omega arith))
digit (suc (suc d)) p h q = absurd (omega arith)

mask_power : (k byte : ℕ) → bit_and byte (2 ^ k) ≡ (byte / 2 ^ k % 2) * 2 ^ k
mask_power k byte =
    let e : 2 ^ (1 + k) - 2 ^ k ≡ 2 ^ k = omega (arith, pow-add 2 1 k) in rw e at (and_high byte 1 k)

pub mask_present : (n bit byte : ℕ) → T (one_bit n bit) → not (eqb (bit_and byte bit) 0) ≡ present bit byte
unfolding present
mask_present zero bit byte t = absurd t
mask_present (suc n) bit byte t =
    dite (ℕ_discrete bit (2 ^ n))
    (λ e. rw (e, mask_power) (digit (byte / 2 ^ n % 2) (2 ^ n) (mod-lt _ (lit< tt)) (pow_pos n)))
    (λ ne. mask_present n bit byte (rw (ne_eqb bit (2 ^ n) ne) at t))
