-- Document 01, "The step runner": good lines and bad ones, as one table with a single theorem, computed.
-- Assumes nothing.
use Rattle.std.specs.Prelude.{List, [], ◌∷◌, ◌++◌, map, ◌≡◌, refl, ℕ, replicate}
use Rattle.store.specs.Model.{blank}
use Rattle.rules.specs.Runner.{line_call, input_calls, runner}
use Rattle.rules.specs.Text.{bytes}
use Rattle.rules.specs.Transcript.{answers, small}

abbrev four : (w x y z : ℕ) → List ℕ
four w x y z = w ∷ x ∷ y ∷ z ∷ []

abbrev bad : List ℕ
bad = four 14 0 0 0

-- An input, and what is answered.
abbrev Run : Type 0
Run = List ℕ × List (List ℕ)

-- "leading zeros allowed"
abbrev zeros : Run
zeros = (bytes "R\nI 01 0001 007\n", four 0 1 0 0 ∷ four 0 2 0 1 ∷ [])

-- "single spaces": two, one at the end, one before the letter, a tab.
abbrev spaces : Run
spaces = (bytes "R\nF  1\nF 1 \n F 1\nF\t1\nF 1\n", four 0 1 0 0 ∷ bad ∷ bad ∷ bad ∷ bad ∷ four 0 0 0 0 ∷ [])

-- No line at all, no such letter, a small letter, two letters, a letter without its space.
abbrev letters : Run
letters = (bytes "\nX\nr\nRR\nF1\nR\n", bad ∷ bad ∷ bad ∷ bad ∷ bad ∷ four 0 1 0 0 ∷ [])

-- Too many numbers and too few, for each letter.
abbrev counts : List Run
counts =
    (bytes "R 1\nU 1\nI 1 1\nI 1 1 7 7\nC 1 1\nC 1 1 7 7\n", replicate 6 bad)
    ∷ (bytes "D 1\nD 1 1 1\nP 1\nP 1 1 1\nF\nF 1 1\nS 1\n", replicate 7 bad)
    ∷ []

-- No decimal: a sign, a letter, hexadecimal, the bytes before 0 and after 9.
abbrev digits : Run
digits = (
  bytes "R\nF +1\nF -1\nF 1a\nF 0x1\nF /\nF :\nF 1\n",
  four 0 1 0 0 ∷ replicate 6 bad ++ four 0 0 0 0 ∷ [],
)

-- "numbers below 2^32"
abbrev numbers : Run
numbers = (
  bytes "R\nP 1 4294967296\nP 1 4294967295\nP 1 99999999999999999999\n",
  four 0 1 0 0 ∷ bad ∷ four 0 2 0 1 ∷ bad ∷ [],
)

-- "at most 64 bytes without it": 64 and 65 bytes.
abbrev lengths : Run
lengths = (
  bytes "R\nP 1 000000000000000000000000000000000000000000000000000000000009\n"
      ++ bytes "P 1 0000000000000000000000000000000000000000000000000000000000009\n",
  four 0 1 0 0 ∷ four 0 2 0 1 ∷ bad ∷ [],
)

-- A carriage return belongs to the line.
abbrev returns : Run
returns = (bytes "R\r\nR\n", bad ∷ four 0 1 0 0 ∷ [])

-- "an unended last one too"
abbrev unended : List Run
unended =
    -- which, ended, would be good; after a good one
    (bytes "R", bad ∷ [])
    ∷ (bytes "R\nR", four 0 1 0 0 ∷ bad ∷ [])
    -- no input; the end right after a line feed; an empty line before the end
    ∷ ([], [])
    ∷ (bytes "R\n", four 0 1 0 0 ∷ [])
    ∷ (bytes "R\n\n", four 0 1 0 0 ∷ bad ∷ [])
    ∷ []

-- Every letter, and a refusal's number.
abbrev every_letter : Run
every_letter = (
  bytes "U\nI 1 1 7\nC 1 1 14\nD 2 1\nP 3 9\nF 4\nF 4\nS\n",
  four 0 1 0 0
      ∷ four 0 1 0 0
      ∷ four 0 2 2 0
      ∷ four 0 3 0 0
      ∷ four 0 4 0 0
      ∷ four 0 0 0 0
      ∷ four 4 0 0 0
      ∷ four 0 1 1 0
      ∷ [],
)

abbrev pub runs : List Run
runs =
    (zeros ∷ spaces ∷ letters ∷ [])
    ++ counts
    ++ (digits ∷ numbers ∷ lengths ∷ returns ∷ [])
    ++ unended
    ++ (every_letter ∷ [])

pub lines_right : map (λ x. runner (blank small) x.0) runs ≡ map (λ x. x.1) runs
unfolding answers line_call input_calls runner
lines_right = refl
