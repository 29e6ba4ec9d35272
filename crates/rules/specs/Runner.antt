-- Document 01, "The step runner": from the bytes of its input to calls, and from answers to its four numbers.
-- Assumes nothing.
use Rattle.std.specs.Prelude.{Bool, true, false, ◌&&◌, List, [], ◌∷◌, ℕ, ◌+◌, ◌-◌, ◌*◌, ◌^◌, eqb, ltb, length, get_or}
use Rattle.std.proofs.Math.Option.{Option, none, some}
use Rattle.std.specs.Prelude.{if◌then◌else◌}
use Rattle.store.specs.Lists.{first, agree}
use Rattle.store.specs.Model.{Model}
use Rattle.store.specs.declared.Limits.{Limits}
use Rattle.store.specs.Layout.{within}
use Rattle.rules.specs.declared.ChangeTransitionAction.{ChangeTransitionAction}
use Rattle.rules.specs.declared.ChangeTransitionAction.TheVariants.{Nothing, Remove, Insert}
use Rattle.rules.specs.Refusals.{refusal_number}
use Rattle.rules.specs.Calls.{Call, new_root, new_unique, insert_key, change_key, remove_key}
use Rattle.rules.specs.Calls.{change_prototype, release, sweep, Given, Freed, Done, Found, NotFound}
use Rattle.rules.specs.Calls.{Listed, Number, Reply, No, Yes, call}

-- "its image array has 6,952 words: S 256, T 32, K 32, E 256"
abbrev pub runner_limits : Limits
runner_limits = record { S = 256; T = 32; K = 32; E = 256 }

-- ## Lines

abbrev pub line_feed : ℕ
line_feed = 10

abbrev pub space : ℕ
space = 32

abbrev pub on_first : ℕ → List (List ℕ) → List (List ℕ)
on_first b [] = (b ∷ []) ∷ []
on_first b (p ∷ ps) = (b ∷ p) ∷ ps

-- What stands between the separators, the first part before the first of them.
abbrev pub parts : (separator : ℕ) → List ℕ → List (List ℕ)
parts separator [] = [] ∷ []
parts separator (b ∷ bs) =
    let ps = parts separator bs in
    if eqb b separator then [] ∷ ps else on_first b ps

-- "Decimal, leading zeros allowed"
abbrev pub decimal : ℕ → List ℕ → Option ℕ
decimal value [] = some value
decimal value (b ∷ bs) =
    elim (within 48 57 b) [ true ↦ decimal (10 * value + (b - 48)) bs | false ↦ none ]

abbrev pub below2^32 : Option ℕ → Option ℕ
below2^32 none = none
below2^32 (some n) = if ltb n (2 ^ 32) then some n else none

-- "numbers below 2^32"
abbrev pub number : List ℕ → Option ℕ
number [] = none
number (b ∷ bs) = below2^32 (decimal 0 (b ∷ bs))

abbrev pub both : Option ℕ → Option (List ℕ) → Option (List ℕ)
both none ns = none
both (some n) none = none
both (some n) (some ns) = some (n ∷ ns)

abbrev pub numbers : List (List ℕ) → Option (List ℕ)
numbers [] = some []
numbers (p ∷ ps) = both (number p) (numbers ps)

-- A line's letter, how many numbers follow it, and the call that they make.
pub record Form : Type 0 where
  pub letter : ℕ
  pub count : ℕ
  pub makes : List ℕ → Call

abbrev form : ℕ → ℕ → (List ℕ → Call) → Form
form letter count makes = record { letter = letter; count = count; makes = makes }

abbrev nth : ℕ → List ℕ → ℕ
nth i ns = get_or ns i 0

-- "`R` root, `U` empty unique, `I h k a` insert, `C h k a` change, `D h k` remove, `P h p` prototype, `F h` release,
-- `S` sweep"
abbrev pub forms : List Form
forms =
    form 82 0 (λ ns. new_root)
    ∷ form 85 0 (λ ns. new_unique)
    ∷ form 73 3 (λ ns. insert_key (nth 0 ns) (nth 1 ns) (nth 2 ns))
    ∷ form 67 3 (λ ns. change_key (nth 0 ns) (nth 1 ns) (nth 2 ns))
    ∷ form 68 2 (λ ns. remove_key (nth 0 ns) (nth 1 ns))
    ∷ form 80 2 (λ ns. change_prototype (nth 0 ns) (nth 1 ns))
    ∷ form 70 1 (λ ns. release (nth 0 ns))
    ∷ form 83 0 (λ ns. sweep)
    ∷ []

abbrev made : Option Form → List ℕ → Option Call
made none ns = none
made (some f) ns = some (f.makes ns)

abbrev fits : List ℕ → List ℕ → Form → Bool
fits word ns f = agree word (f.letter ∷ []) && eqb (length ns) f.count

abbrev pub formed : List ℕ → Option (List ℕ) → Option Call
formed word none = none
formed word (some ns) = made (first (fits word ns) forms) ns

abbrev pub command : List (List ℕ) → Option Call
command [] = none
command (word ∷ ps) = formed word (numbers ps)

-- "single spaces, .. at most 64 bytes without" the line feed; no call is "any other line".
unfoldable pub line_call : List ℕ → Option Call
line_call line = if ltb 64 (length line) then none else command (parts space line)

-- "ended by a line feed, ..; any other line, an unended last one too, is BadLine .. and the next is read"
abbrev lines : List (List ℕ) → List (Option Call)
lines [] = []
lines ([] ∷ []) = []
lines ((b ∷ bs) ∷ []) = none ∷ []
lines (line ∷ next ∷ rest) = line_call line ∷ lines (next ∷ rest)

unfoldable pub input_calls : List ℕ → List (Option Call)
input_calls input = lines (parts line_feed input)

-- ## Replies

-- "action (0 Nothing, 1 Remove, 2 Insert)"
abbrev pub action_number : ChangeTransitionAction → ℕ
action_number Nothing = 0
action_number Remove = 1
action_number Insert = 2

-- "four numbers: refusal or 0, shape, action .., transition count. `S` answers 0, shapes freed, tables freed, 0;
-- `F` answers four zeros." No line asks a question; from C one is answered by 1, slot index and attributes, or zeros
-- (lookup), by how many (key list), or by its number.
abbrev pub four_numbers : Reply → List ℕ
four_numbers (No r) = refusal_number r ∷ 0 ∷ 0 ∷ 0 ∷ []
four_numbers (Yes (Given n action transitions)) = 0 ∷ n ∷ action_number action ∷ transitions ∷ []
four_numbers (Yes (Freed shapes tables)) = 0 ∷ shapes ∷ tables ∷ 0 ∷ []
four_numbers (Yes Done) = 0 ∷ 0 ∷ 0 ∷ 0 ∷ []
four_numbers (Yes (Found slot attributes)) = 0 ∷ 1 ∷ slot ∷ attributes ∷ []
four_numbers (Yes NotFound) = 0 ∷ 0 ∷ 0 ∷ 0 ∷ []
four_numbers (Yes (Listed count out)) = 0 ∷ count ∷ 0 ∷ 0 ∷ []
four_numbers (Yes (Number n)) = 0 ∷ n ∷ 0 ∷ 0 ∷ []

-- "BadLine (`14 0 0 0`)"
abbrev pub bad_line : List ℕ
bad_line = 14 ∷ 0 ∷ 0 ∷ 0 ∷ []

abbrev pub replies : Model → List (Option Call) → List (List ℕ)
replies m [] = []
replies m (none ∷ cs) = bad_line ∷ replies m cs
replies m (some c ∷ cs) = let r = call m c in four_numbers r.1 ∷ replies r.0 cs

-- What the runner answers to its whole input, line by line.
unfoldable pub runner : Model → (input : List ℕ) → List (List ℕ)
runner m input = replies m (input_calls input)
