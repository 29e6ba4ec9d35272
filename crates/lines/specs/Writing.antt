-- The text of an answer, and bytes written one after the other.
-- Assumes nothing.
use Rattle.std.specs.Prelude.{List, [], ◌∷◌, ◌++◌, ◌≡◌, refl, ℕ, suc, ◌+◌, ◌/◌, ◌%◌, ◌≤◌, ◌<◌, length, take, drop, set}
use Rattle.std.proofs.Common.{◌∙◌, add-zero, add-suc, suc-add, arith, length-append}
use Rattle.std.proofs.lemmas.List.Edits.{sets, sets-eq}
use Rattle.std.proofs.Math.Seq.{length-sets}
use Rattle.rules.specs.Text.{bytes}
use Rattle.rules.specs.Runner.{space, line_feed}
use Rattle.lines.specs.Decimal.{decimal_digits, digits-small, digits_large}

-- Numbers separated by single spaces, ended by a line feed.
abbrev pub reply_text : List ℕ → List ℕ
reply_text [] = line_feed ∷ []
reply_text (n ∷ []) = decimal_digits n ++ line_feed ∷ []
reply_text (n ∷ m ∷ ns) = decimal_digits n ++ space ∷ reply_text (m ∷ ns)

-- A line of document 01's sample.
sample : reply_text (0 ∷ 6 ∷ 1 ∷ 3 ∷ []) ≡ bytes "0 6 1 3\n"
unfolding decimal_digits
sample = refl

-- ## Bytes written

-- A text stands in the lent bytes from a position on, up to its end.
pub record Written (before after : List ℕ) (at : ℕ) (text : List ℕ) (end : ℕ) : Type 0 where
  pub stored : after ≡ sets before at text
  pub ended : end ≡ at + length text

module _ {before after : List ℕ} {at : ℕ} {text : List ℕ} {end : ℕ} (w : Written before after at text end) where
  -- No byte before the position, and none from the end on, is changed.
  pub rest_unchanged : at + length text ≤ length before → after ≡ take at before ++ text ++ drop end before
  rest_unchanged l = rw w.ended (w.stored ∙ sets-eq text before at l)

  pub length-kept : length after ≡ length before
  length-kept = rw w.stored (length-sets before at text)

  pub room-left : at + length text < length before → end < length after
  room-left l = omega (arith, length-kept, w.ended)

sets-append : (ws : List ℕ) (at : ℕ) (xs ys : List ℕ)
    → sets (sets ws at xs) (at + length xs) ys ≡ sets ws at (xs ++ ys)
sets-append ws at [] ys = rw add-zero
sets-append ws at (x ∷ xs) ys = rw (add-suc, ← suc-add) (sets-append (set ws at x) (suc at) xs ys)

-- A text, and then another.
pub written_then : {before between after : List ℕ} {at : ℕ} {xs : List ℕ} {seam : ℕ} {ys : List ℕ} {end : ℕ}
    → Written before between at xs seam → Written between after seam ys end
    → Written before after at (xs ++ ys) end
written_then {before} {between} {after} {at} {xs} {seam} {ys} {end} w v =
    record {
      stored = v.stored ∙ rw (w.stored, w.ended) (sets-append before at xs ys);
      ended = rw length-append (omega (arith, w.ended, v.ended));
    }

one_byte : (ws : List ℕ) (at x : ℕ) → Written ws (set ws at x) at (x ∷ []) (at + 1)
one_byte ws at x = record { stored = refl; ended = refl }

then_byte : {before between : List ℕ} {at : ℕ} {xs : List ℕ} {seam : ℕ} → Written before between at xs seam
    → (x : ℕ) → Written before (set between seam x) at (xs ++ x ∷ []) (seam + 1)
then_byte {between = between} {seam = seam} w x = written_then w (one_byte between seam x)

-- ## One number

module _ (n : ℕ) where
  pub small-room : {at room : ℕ} → n < 10 → at + length (decimal_digits n) ≤ room → at < room
  small-room l h = let h₁ = rw (digits-small n l) at h in omega arith

  pub small-written : (ws : List ℕ) (at : ℕ) → n < 10
      → Written ws (set ws at (48 + n)) at (decimal_digits n) (at + 1)
  small-written ws at l = rw (digits-small n l) (one_byte ws at (48 + n))

  pub large_room : (at : ℕ) {room : ℕ} → 10 ≤ n → at + length (decimal_digits n) ≤ room
      → at + length (decimal_digits (n / 10)) < room
  large_room at l h = let h₁ = rw (digits_large n l, length-append) at h in omega arith

  pub large_written : {before between : List ℕ} {at seam : ℕ} → 10 ≤ n
      → Written before between at (decimal_digits (n / 10)) seam
      → Written before (set between seam (48 + n % 10)) at (decimal_digits n) (seam + 1)
  large_written l w = rw (digits_large n l) (then_byte w (48 + n % 10))
