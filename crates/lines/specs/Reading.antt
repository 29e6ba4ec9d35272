-- One number read from the left, byte by byte: what is left of the line decides.
-- Assumes nothing.
use Rattle.std.specs.Prelude.{Bool, true, false, List, [], ◌∷◌, ◌≡◌, refl, ℕ, zero, suc, ◌+◌, ◌-◌, ◌*◌, ◌^◌, ◌≤◌, ◌<◌, eqb, leb, length, get_or, drop, None, Option as Maybe, Some}
use Rattle.std.proofs.Common.{true≢false, sym, ◌∙◌, add-one, arith, le-ltb, leb-true, drop-cons}
use Rattle.std.proofs.Math.Option.{Option, none, some}
use Rattle.std.specs.Prelude.{if◌then◌else◌}
use Rattle.store.specs.ListLaws.{and_both}
use Rattle.store.specs.Layout.{within}
use Rattle.rules.specs.Runner.{space, on_first, parts, decimal, below2^32, both, numbers}
use Rattle.lines.specs.declared.reading.NumberAt.{NumberAt}

-- A number ends here.
abbrev pub stops : List ℕ → Bool
stops [] = true
stops (b ∷ bs) = eqb b space

-- The numbers that follow a word: none at the end of the line, else those after a space.
abbrev pub following : List ℕ → Option (List ℕ)
following [] = some []
following (b ∷ bs) = if eqb b space then numbers (parts space bs) else none

-- The numbers from a start on, once the first of them is read.
abbrev pub read_on : List ℕ → Maybe NumberAt → Option (List ℕ)
read_on line (Some n) = both (some n.value) (following (drop n.end line))
read_on line None = none

-- The number ends in the line, and not before its start.
abbrev EndsIn : List ℕ → (start : ℕ) → Maybe NumberAt → Type 0
EndsIn line start (Some n) = (start ≤ n.end) × (n.end ≤ length line)
EndsIn line start None = Unit {0}

-- What the reading of one number promises.
pub record ReadsOn (line : List ℕ) (start : ℕ) (r : Maybe NumberAt) : Type 0 where
  pub same : numbers (parts space (drop start line)) ≡ read_on line r
  pub ends : EndsIn line start r

-- ## Digits

-- The numbers of what is left, where the first digits of the first have this value.
abbrev onward : ℕ → List (List ℕ) → Option (List ℕ)
onward v [] = both (below2^32 (some v)) (some [])
onward v (p ∷ ps) = both (below2^32 (decimal v p)) (numbers ps)

digit : (v b : ℕ) (s : List ℕ) → eqb b space ≡ false
    → onward v (parts space (b ∷ s))
    ≡ (if within 48 57 b then onward (10 * v + (b - 48)) (parts space s) else none)
digit v b s e = rw e (go (parts space s))
  where
    one : (t : Bool) (p : List ℕ) (ns : Option (List ℕ))
        → both (below2^32 (elim t [ true ↦ decimal (10 * v + (b - 48)) p | false ↦ none ])) ns
        ≡ (if t then both (below2^32 (decimal (10 * v + (b - 48)) p)) ns else none)
    one true p ns = refl
    one false p ns = refl

    go : (ps : List (List ℕ)) → onward v (on_first b ps)
        ≡ (if within 48 57 b then onward (10 * v + (b - 48)) ps else none)
    go [] = one (within 48 57 b) [] (some [])
    go (p ∷ ps) = one (within 48 57 b) p (numbers ps)

pub digit_range : (b : ℕ) → within 48 57 b ≡ true → (48 ≤ b) × (b ≤ 57)
digit_range b e = let p = and_both (leb 48 b) e in (leb-true 48 b p.0, leb-true b 57 p.1)

-- Further digits make a number no smaller.
too_big : (v : ℕ) (p : List ℕ) → 2 ^ 32 ≤ v → below2^32 (decimal v p) ≡ none
too_big v [] l = rw (le-ltb v (2 ^ 32) l)
too_big v (b ∷ p) l = go (within 48 57 b) (too_big (10 * v + (b - 48)) p (omega arith))
  where
    go : (t : Bool) → below2^32 (decimal (10 * v + (b - 48)) p) ≡ none
        → below2^32 (elim t [ true ↦ decimal (10 * v + (b - 48)) p | false ↦ none ]) ≡ none
    go true again = again
    go false again = refl

onward_big : (v : ℕ) (ps : List (List ℕ)) → 2 ^ 32 ≤ v → onward v ps ≡ none
onward_big v [] l = rw (le-ltb v (2 ^ 32) l)
onward_big v (p ∷ ps) l = rw (too_big v p l)

-- ## The test of a stop

pub stop_within : (line : List ℕ) {at : ℕ} → at < length line
    → eqb (get_or line at 0) space ≡ stops (drop at line)
stop_within line {at} l = rw (drop-cons line at 0 l)

inside : (line : List ℕ) (at : ℕ) → stops (drop at line) ≡ false → at < length line
inside [] zero e = absurd (true≢false e)
inside [] (suc at) e = absurd (true≢false e)
inside (b ∷ line) zero e = omega arith
inside (b ∷ line) (suc at) e = omega (arith, inside line at e)

-- ## The loop

-- The digits up to here have this value, and are followed by what is left.
pub record Digits (line : List ℕ) (start value end : ℕ) : Type 0 where
  pub from : start ≤ end
  pub to : end ≤ length line
  pub small : value < 2 ^ 32
  pub same : numbers (parts space (drop start line)) ≡ onward value (parts space (drop end line))

module _
    {line : List ℕ}
    {start value end : ℕ}
    (d : Digits line start value end)
    {t : Bool}
    (read : t ≡ stops (drop end line))
  where
    module _ (going : t ≡ false) where
      pub byte_there : end < length line
      byte_there = inside line end (sym read ∙ going)

      module _ {b : ℕ} (here : b ≡ get_or line end 0) where
        next : numbers (parts space (drop start line))
            ≡ (if within 48 57 b then onward (10 * value + (b - 48)) (parts space (drop (end + 1) line))
            else none)
        next =
            let left : drop end line ≡ b ∷ drop (end + 1) line =
            rw (add-one, here) (drop-cons line end 0 byte_there) in
            let no_space : eqb b space ≡ false = rw here (stop_within line byte_there ∙ sym read ∙ going) in
            d.same ∙ rw left (digit value b (drop (end + 1) line) no_space)

        module _ (good : within 48 57 b ≡ true) where
          pub digit_big : 2 ^ 32 ≤ 10 * value + (b - 48) → ReadsOn line start None
          digit_big l =
              let rest = parts space (drop (end + 1) line) in
              record { same = next ∙ rw good (onward_big (10 * value + (b - 48)) rest l); ends = tt }
