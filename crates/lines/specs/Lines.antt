-- All numbers of a line, and the line itself.
-- Assumes nothing.
use Rattle.std.specs.Prelude.{Bool, true, false, List, [], ◌∷◌, ◌≡◌, refl, ℕ, ◌≤◌, ◌<◌, eqb, length, get_or, drop, None, Option as Maybe, Some}
use Rattle.std.proofs.Math.Bool.{and-false}
use Rattle.std.proofs.Common.{inl, inr, sym, ◌∙◌, arith, lt-ltb, le-ltb, ne_eqb, eqb-true}
use Rattle.std.proofs.Math.Option.{Option, none, some}
use Rattle.std.specs.Prelude.{if◌then◌else◌}
use Rattle.store.specs.ListLaws.{Decided, either}
use Rattle.rules.specs.Runner.{space, on_first, parts, both, numbers, formed, command, line_call}
use Rattle.lines.specs.declared.Command.{Command}
use Rattle.lines.specs.declared.Command.TheVariants.{BadLine}
use Rattle.lines.specs.declared.reading.Numbers.{Numbers}
use Rattle.lines.specs.declared.reading.Numbers.TheVariants.{Zero, One, Two, Three}
use Rattle.lines.specs.Commands.{command_call}
use Rattle.lines.specs.Reading.{following}

-- ## The numbers

-- No form has more than three numbers.
abbrev pub at_most_three : Option (List ℕ) → Option (List ℕ)
at_most_three none = none
at_most_three (some []) = some []
at_most_three (some (a ∷ [])) = some (a ∷ [])
at_most_three (some (a ∷ b ∷ [])) = some (a ∷ b ∷ [])
at_most_three (some (a ∷ b ∷ c ∷ [])) = some (a ∷ b ∷ c ∷ [])
at_most_three (some (a ∷ b ∷ c ∷ d ∷ ns)) = none

-- One number more.
abbrev pub with_number : Numbers → ℕ → Maybe Numbers
with_number Zero n = Some (One n)
with_number (One a) n = Some (Two a n)
with_number (Two a b) n = Some (Three a b n)
with_number (Three a b c) n = None

-- Those read, with those that follow.
abbrev before : Numbers → Option (List ℕ) → Option (List ℕ)
before Zero ns = at_most_three ns
before (One a) ns = at_most_three (both (some a) ns)
before (Two a b) ns = at_most_three (both (some a) (both (some b) ns))
before (Three a b c) ns = at_most_three (both (some a) (both (some b) (both (some c) ns)))

-- Numbers were read up to here, and are followed by what is left.
pub record ReadTo (line : List ℕ) (r : Numbers) (at : ℕ) : Type 0 where
  pub to : at ≤ length line
  pub same : before r (following (drop at line)) ≡ at_most_three (following (drop 1 line))

-- ## The whole line

-- No form has another word than a letter,
no_word : (ns : Option (List ℕ)) → formed [] ns ≡ none
no_word none = refl
no_word (some ns) = refl

space_word : (ns : Option (List ℕ)) → formed (space ∷ []) ns ≡ none
space_word none = refl
space_word (some ns) = refl

long_word : (b c : ℕ) (p : List ℕ) (ns : Option (List ℕ)) → formed (b ∷ c ∷ p) ns ≡ none
long_word b c p none = refl
long_word b c p (some ns) = simp and-false

letter_alone : (b : ℕ) (s : List ℕ) → command (parts space (b ∷ s)) ≡ formed (b ∷ []) (following s)
letter_alone b s = go (either (eqb b space))
  where
    after : (s : List ℕ) → command (on_first b (parts space s)) ≡ formed (b ∷ []) (following s)
    after [] = refl
    after (c ∷ s) = next (eqb c space)
      where
        longer : (ps : List (List ℕ)) → command (on_first b (on_first c ps)) ≡ none
        longer [] = long_word b c [] (some [])
        longer (p ∷ ps) = long_word b c p (numbers ps)

        next : (t : Bool)
            → command (on_first b (if t then [] ∷ parts space s else on_first c (parts space s)))
            ≡ formed (b ∷ []) (if t then numbers (parts space s) else none)
        next true = refl
        next false = longer (parts space s)

    go : Decided (eqb b space) → command (parts space (b ∷ s)) ≡ formed (b ∷ []) (following s)
    go (inl e) =
        rw (e, eqb-true b space e)
        (no_word (numbers (parts space s)) ∙ sym (space_word (following s)))
    go (inr e) = rw e (after s)

-- or more than three numbers.
few : (b : ℕ) (ns : Option (List ℕ)) → formed (b ∷ []) (at_most_three ns) ≡ formed (b ∷ []) ns
few b none = refl
few b (some []) = refl
few b (some (n ∷ [])) = refl
few b (some (n ∷ m ∷ [])) = refl
few b (some (n ∷ m ∷ k ∷ [])) = refl
few b (some (n ∷ m ∷ k ∷ j ∷ ns)) =
    simp (many 0 (omega arith), many 1 (omega arith), many 2 (omega arith), many 3 (omega arith), and-false)
  where
    many : (count : ℕ) → count ≤ 3 → eqb (length (n ∷ m ∷ k ∷ j ∷ ns)) count ≡ false
    many count l = ne_eqb _ count (λ e. omega arith)

pub line_read : (line : List ℕ) {b : ℕ} {ns : Option (List ℕ)} (c : Command) → 0 < length line → length line ≤ 64
    → b ≡ get_or line 0 0 → ns ≡ at_most_three (following (drop 1 line))
    → command_call c ≡ formed (b ∷ []) ns → command_call c ≡ line_call line
unfolding line_call
line_read [] c l m here e f = absurd (omega arith)
line_read (b ∷ line) c l m here e f =
    rw (le-ltb 64 (length (b ∷ line)) m)
    (f ∙ rw (here, e) (few b (following line) ∙ sym (letter_alone b line)))

pub none_read : (line : List ℕ) → 0 < length line → length line ≤ 64
    → none ≡ at_most_three (following (drop 1 line)) → none ≡ line_call line
none_read line l m e = line_read line BadLine l m refl e refl

pub too_long : (line : List ℕ) → 64 < length line → none ≡ line_call line
unfolding line_call
too_long line l = rw (lt-ltb 64 (length line) l)

pub no_line : (line : List ℕ) → length line ≡ 0 → none ≡ line_call line
unfolding line_call
no_line [] e = refl
no_line (b ∷ line) e = absurd (omega arith)
