-- Document 01's lesson sheet, cases 1 to 9, and the runner's sample, as one table with a single theorem, computed.
-- Assumes nothing.
use Rattle.std.specs.Prelude.{List, [], ◌∷◌, ◌++◌, map, ◌≡◌, refl, ℕ}
use Rattle.store.specs.Model.{blank}
use Rattle.rules.specs.declared.ChangeTransitionAction.TheVariants.{Remove, Insert}
use Rattle.rules.specs.declared.Refusal.TheVariants.{OutShort}
use Rattle.rules.specs.Calls.{new_root, new_unique, insert_key, change_key, remove_key, change_prototype}
use Rattle.rules.specs.Calls.{ask, lookup, keys_into, prototype_of, Given, Listed, Number, No, Yes}
use Rattle.rules.specs.Runner.{runner_limits, line_call, input_calls, runner}
use Rattle.rules.specs.Text.{bytes}
use Rattle.rules.specs.Transcript.{Line, ◌⇒◌, answers, expected, gives, at, nowhere, small, a, b, c, s, index5}

-- ## The cases

-- a 7, b 14, c 7
abbrev pub abc : List Line
abc =
    new_root ⇒ gives 1 0
    ∷ insert_key 1 a 7 ⇒ gives 2 1
    ∷ insert_key 2 b 14 ⇒ gives 3 2
    ∷ insert_key 3 c 7 ⇒ gives 4 3
    ∷ []

-- "a 7, b 14, c 7: indices 0, 1, 3."
abbrev case1 : List Line
case1 =
    abc
    ++ ask 4 (lookup a) ⇒ at 0 7
    ∷ ask 4 (lookup b) ⇒ at 1 14
    ∷ ask 4 (lookup c) ⇒ at 3 7
    ∷ ask 3 (lookup c) ⇒ nowhere
    ∷ []

-- "then remove b: a 0, c 1; transition count 2."
abbrev case2 : List Line
case2 =
    abc
    ++ remove_key 4 b ⇒ gives 5 2
    ∷ ask 5 (lookup a) ⇒ at 0 7
    ∷ ask 5 (lookup b) ⇒ nowhere
    ∷ ask 5 (lookup c) ⇒ at 1 7
    ∷ []

-- "from 1, b to 7: Remove; indices 0, 1, 2."
abbrev case3 : List Line
case3 =
    abc
    ++ change_key 4 b 7 ⇒ Yes (Given 6 Remove 3)
    ∷ ask 6 (lookup a) ⇒ at 0 7
    ∷ ask 6 (lookup b) ⇒ at 1 7
    ∷ ask 6 (lookup c) ⇒ at 2 7
    ∷ []

-- "from 1, a to 5: Nothing, count 4; then remove c: a is 7 again, and the shape is the one that stood before c."
abbrev case4 : List Line
case4 =
    abc
    ++ change_key 4 a 5 ⇒ gives 5 4
    ∷ ask 5 (lookup a) ⇒ at 0 5
    ∷ remove_key 5 c ⇒ gives 3 2
    ∷ ask 3 (lookup a) ⇒ at 0 7
    ∷ ask 3 (lookup b) ⇒ at 1 14
    ∷ ask 3 (lookup c) ⇒ nowhere
    ∷ []

-- "a 7, b 7, b to 5, remove a: b has 5, index 0."
abbrev case5 : List Line
case5 =
    new_root ⇒ gives 1 0
    ∷ insert_key 1 a 7 ⇒ gives 2 1
    ∷ insert_key 2 b 7 ⇒ gives 3 2
    ∷ change_key 3 b 5 ⇒ gives 4 3
    ∷ remove_key 4 a ⇒ gives 5 1
    ∷ ask 5 (lookup b) ⇒ at 0 5
    ∷ ask 5 (lookup a) ⇒ nowhere
    ∷ []

-- "a 7, b 7, prototype 9, c 7, prototype 0, remove a: prototype 0, b, c; count 3."
abbrev case6 : List Line
case6 =
    new_root ⇒ gives 1 0
    ∷ insert_key 1 a 7 ⇒ gives 2 1
    ∷ insert_key 2 b 7 ⇒ gives 3 2
    ∷ change_prototype 3 9 ⇒ gives 4 3
    ∷ insert_key 4 c 7 ⇒ gives 5 4
    ∷ change_prototype 5 0 ⇒ gives 6 5
    ∷ remove_key 6 a ⇒ gives 9 3
    ∷ ask 9 prototype_of ⇒ Yes (Number 0)
    ∷ ask 9 (keys_into (0 ∷ 0 ∷ [])) ⇒ Yes (Listed 2 (b ∷ c ∷ []))
    ∷ ask 9 (lookup b) ⇒ at 0 7
    ∷ ask 9 (lookup c) ⇒ at 1 7
    ∷ []

-- "unique a 14, b 7, c 7 (0, 2, 3), remove a: b 0, c 1; the old one empty, prototype 0."
abbrev case7 : List Line
case7 =
    new_unique ⇒ gives 1 0
    ∷ change_prototype 1 9 ⇒ gives 2 0
    ∷ insert_key 2 a 14 ⇒ gives 2 0
    ∷ insert_key 2 b 7 ⇒ gives 2 0
    ∷ insert_key 2 c 7 ⇒ gives 2 0
    ∷ ask 2 (lookup a) ⇒ at 0 14
    ∷ ask 2 (lookup b) ⇒ at 2 7
    ∷ ask 2 (lookup c) ⇒ at 3 7
    ∷ remove_key 2 a ⇒ gives 3 0
    ∷ ask 3 (lookup b) ⇒ at 0 7
    ∷ ask 3 (lookup c) ⇒ at 1 7
    ∷ ask 3 (lookup a) ⇒ nowhere
    ∷ ask 3 prototype_of ⇒ Yes (Number 9)
    ∷ ask 2 (keys_into (4 ∷ [])) ⇒ Yes (Listed 0 (4 ∷ []))
    ∷ ask 2 prototype_of ⇒ Yes (Number 0)
    ∷ []

-- "unique a 7, b 7, a to 14: Insert; a 0, b 2."
abbrev case8 : List Line
case8 =
    new_unique ⇒ gives 1 0
    ∷ insert_key 1 a 7 ⇒ gives 1 0
    ∷ insert_key 1 b 7 ⇒ gives 1 0
    ∷ change_key 1 a 14 ⇒ Yes (Given 2 Insert 0)
    ∷ ask 2 (lookup a) ⇒ at 0 14
    ∷ ask 2 (lookup b) ⇒ at 2 7
    ∷ []

-- "symbol s, string a, index 5, string b, all 7: list a, b, s."
abbrev case9 : List Line
case9 =
    new_root ⇒ gives 1 0
    ∷ insert_key 1 s 7 ⇒ gives 2 1
    ∷ insert_key 2 a 7 ⇒ gives 3 2
    ∷ insert_key 3 index5 7 ⇒ gives 4 3
    ∷ insert_key 4 b 7 ⇒ gives 5 4
    ∷ ask 5 (keys_into (9 ∷ 9 ∷ 9 ∷ 9 ∷ [])) ⇒ Yes (Listed 3 (a ∷ b ∷ s ∷ 9 ∷ []))
    ∷ ask 5 (keys_into (9 ∷ 9 ∷ [])) ⇒ No OutShort
    ∷ []

abbrev pub lessons : List (List Line)
lessons = case1 ∷ case2 ∷ case3 ∷ case4 ∷ case5 ∷ case6 ∷ case7 ∷ case8 ∷ case9 ∷ []

-- "Input `R`, `I 1 1 7`, `I 2 2 14`, `I 3 3 7`, `C 4 2 7`, `D 6 9` prints" this.
abbrev pub sample : List ℕ
sample = bytes "R\nI 1 1 7\nI 2 2 14\nI 3 3 7\nC 4 2 7\nD 6 9\n"

abbrev pub sample_replies : List (List ℕ)
sample_replies =
    (0 ∷ 1 ∷ 0 ∷ 0 ∷ [])
    ∷ (0 ∷ 2 ∷ 0 ∷ 1 ∷ [])
    ∷ (0 ∷ 3 ∷ 0 ∷ 2 ∷ [])
    ∷ (0 ∷ 4 ∷ 0 ∷ 3 ∷ [])
    ∷ (0 ∷ 6 ∷ 1 ∷ 3 ∷ [])
    ∷ (6 ∷ 0 ∷ 0 ∷ 0 ∷ [])
    ∷ []

pub lessons_right :
    (map (answers (blank small)) lessons ≡ map expected lessons)
    × (runner (blank runner_limits) sample ≡ sample_replies)
unfolding answers line_call input_calls runner
lessons_right = (refl, refl)
