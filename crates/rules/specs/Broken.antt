-- Document 01, "Sound means all of this": a sound image, and for each sentence words that break it, as one
-- table with a single theorem, computed.
-- Assumes nothing.
use Rattle.std.specs.Prelude.{Bool, true, false, List, [], ◌∷◌, ◌++◌, map, ◌≡◌, refl, ℕ, ◌+◌, ◌-◌, ◌*◌, set, take}
use Prim.Native.String.{String}
use Rattle.std.specs.Prelude.{if◌then◌else◌}
use Rattle.store.specs.Layout.{flat, rows, words, parse, formatted}
use Rattle.store.specs.Model.{blank}
use Rattle.store.specs.declared.Limits.{Limits}
use Rattle.rules.specs.declared.Refusal.TheVariants.{Damaged}
use Rattle.rules.specs.Sound.{word_sentences, model_sentences, sound_words, sound}
use Rattle.rules.specs.Calls.{new_root, new_unique, insert_key, change_key, change_prototype, hold, release}
use Rattle.rules.specs.Calls.{sweep, Freed, Done, No, Yes, after}
use Rattle.rules.specs.Transcript.{Line, ◌⇒◌, answers, gives, limits, a, b, c}
use Rattle.rules.specs.Refused.{bad_key, last_key, called_on}

-- ## Which sentences fail

-- The sentences by the names of their definitions, in the order of `word_sentences` and `model_sentences`.
abbrev names : List String
names =
    "goodLimits"
    ∷ "goodHeader"
    ∷ "tidyTables"
    ∷ "inRange"
    ∷ "tableInUse"
    ∷ "freeZero"
    ∷ "tablesGood"
    ∷ "tablesUsed"
    ∷ "countsFit"
    ∷ "rootsZero"
    ∷ "childrenLinked"
    ∷ "childrenStepped"
    ∷ "edgesDiffer"
    ∷ "edgesGood"
    ∷ "transitionsLimited"
    ∷ "holdsLimited"
    ∷ "uniquesZero"
    ∷ []

abbrev failed : List String → List Bool → List String
failed [] bs = []
failed (n ∷ ns) [] = []
failed (n ∷ ns) (test ∷ bs) = let rest = failed ns bs in if test then rest else n ∷ rest

-- The names of the sentences that words break.
unfoldable pub failing : List ℕ → List String
unfolding answers after flat rows words parse
failing ws = failed names (word_sentences ws ++ model_sentences (parse ws))

-- ## A sound image

-- Shape 1 is a root, 2 and 3 insert a and b, 4 configures a, 5 changes the prototype of 2, 6 is a unique.
-- Tables: 1 of shapes 1, 2, 3 and 5, 2 of shape 4, 3 of shape 6.
-- Edges: 1 to 4 lead to shapes 2 to 5, and 5 (a prototype) and 6 (a property) are dead, from the root.
-- Shape 7, table 4 and edge 7 are free.
abbrev pub size : Limits
size = limits 7 4 3 7

abbrev making : List Line
making =
    new_root ⇒ gives 1 0
    ∷ insert_key 1 a 7 ⇒ gives 2 1
    ∷ insert_key 2 b 14 ⇒ gives 3 2
    ∷ change_key 3 a 5 ⇒ gives 4 3
    ∷ change_prototype 2 9 ⇒ gives 5 2
    ∷ new_unique ⇒ gives 6 0
    ∷ insert_key 6 a 7 ⇒ gives 6 0
    ∷ insert_key 6 b 14 ⇒ gives 6 0
    ∷ change_prototype 1 9 ⇒ gives 7 1
    ∷ release 7 ⇒ Yes Done
    ∷ sweep ⇒ Yes (Freed 1 0)
    ∷ insert_key 1 c 7 ⇒ gives 7 1
    ∷ release 7 ⇒ Yes Done
    ∷ sweep ⇒ Yes (Freed 1 1)
    ∷ []

-- Its words, a row for a record.
abbrev pub image : List ℕ
image =
    (7 ∷ 4 ∷ 3 ∷ 7 ∷ 8 ∷ 78 ∷ 118 ∷ 153 ∷ [])
    ++ (1 ∷ 1 ∷ 0 ∷ 0 ∷ 0 ∷ 0 ∷ 0 ∷ 1 ∷ 2 ∷ 1 ∷ [])
    ++ (1 ∷ 1 ∷ 1 ∷ 0 ∷ 1 ∷ 1 ∷ 0 ∷ 1 ∷ 1 ∷ 1 ∷ [])
    ++ (1 ∷ 1 ∷ 2 ∷ 0 ∷ 2 ∷ 2 ∷ 0 ∷ 1 ∷ 1 ∷ 0 ∷ [])
    ++ (1 ∷ 1 ∷ 3 ∷ 1 ∷ 3 ∷ 2 ∷ 0 ∷ 2 ∷ 0 ∷ 0 ∷ [])
    ++ (1 ∷ 1 ∷ 2 ∷ 2 ∷ 2 ∷ 1 ∷ 9 ∷ 1 ∷ 0 ∷ 0 ∷ [])
    ++ (2 ∷ 3 ∷ 0 ∷ 0 ∷ 0 ∷ 2 ∷ 0 ∷ 3 ∷ 0 ∷ 0 ∷ [])
    ++ (0 ∷ 0 ∷ 0 ∷ 0 ∷ 0 ∷ 0 ∷ 0 ∷ 0 ∷ 0 ∷ 0 ∷ [])
    ++ (3 ∷ a ∷ 7 ∷ 0 ∷ b ∷ 14 ∷ 1 ∷ 0 ∷ 0 ∷ 0 ∷ [])
    ++ (3 ∷ a ∷ 5 ∷ 0 ∷ b ∷ 14 ∷ 1 ∷ 0 ∷ 0 ∷ 0 ∷ [])
    ++ (3 ∷ a ∷ 7 ∷ 0 ∷ b ∷ 14 ∷ 1 ∷ 0 ∷ 0 ∷ 0 ∷ [])
    ++ (0 ∷ 0 ∷ 0 ∷ 0 ∷ 0 ∷ 0 ∷ 0 ∷ 0 ∷ 0 ∷ 0 ∷ [])
    ++ (1 ∷ 0 ∷ a ∷ 7 ∷ 2 ∷ [])
    ++ (2 ∷ 0 ∷ b ∷ 14 ∷ 3 ∷ [])
    ++ (3 ∷ 0 ∷ a ∷ 5 ∷ 4 ∷ [])
    ++ (2 ∷ 1 ∷ 9 ∷ 0 ∷ 5 ∷ [])
    ++ (1 ∷ 1 ∷ 9 ∷ 0 ∷ 0 ∷ [])
    ++ (1 ∷ 0 ∷ c ∷ 7 ∷ 0 ∷ [])
    ++ (0 ∷ 0 ∷ 0 ∷ 0 ∷ 0 ∷ [])

-- ## Other words in it

-- A word of the image, and what stands there instead.
abbrev Change : Type 0
Change = ℕ × ℕ

infix 70 ◌≔◌
abbrev ◌≔◌ : (word value : ℕ) → Change
word ≔ value = (word, value)

-- Words of a shape: 0 state, 1 holds, 2 previous, 3 step kind, 4 transition count, 5 property count,
-- 6 prototype, 7 table, 8 property counter, 9 prototype counter.
-- Of a table: 0 count, 1 key, 2 attributes, 3 slot index, 4 key, and so on.
-- Of an edge: 0 parent, 1 kind, 2 key or prototype, 3 attributes, 4 child.
abbrev shape : (place word : ℕ) → ℕ
shape n i = 8 + 10 * (n - 1) + i

abbrev table : (place word : ℕ) → ℕ
table t i = 78 + 10 * (t - 1) + i

abbrev edge : (place word : ℕ) → ℕ
edge e i = 118 + 5 * (e - 1) + i

abbrev changed : List ℕ → List Change → List ℕ
changed ws [] = ws
changed ws (x ∷ xs) = changed (set ws x.0 x.1) xs

-- An image, and the sentences that it breaks.
abbrev Case : Type 0
Case = List ℕ × List String

infix 68 ◌breaks◌
abbrev ◌breaks◌ : List Change → List String → Case
xs breaks ns = (changed image xs, ns)

abbrev only : String → List String
only n = n ∷ []

-- ## The limits and the header

-- "S, T, E are 1 to 65,535; K 1 to 2,048": with a limit of 0, formatted as a good one would be.
abbrev limits_cases : List Case
limits_cases =
    (formatted (limits 1 1 1 1), [])
    ∷ (formatted (limits 0 1 1 1), only "goodLimits")
    ∷ (formatted (limits 1 0 1 1), only "goodLimits")
    ∷ (formatted (limits 1 1 0 1), only "goodLimits")
    ∷ (formatted (limits 1 1 1 0), only "goodLimits")
    ∷ []

-- "The header agrees with the slice's length."
abbrev header_cases : List Case
header_cases =
    -- the three offsets and the total
    (4 ≔ 9 ∷ []) breaks only "goodHeader"
    ∷ (5 ≔ 79 ∷ []) breaks only "goodHeader"
    ∷ (6 ≔ 117 ∷ []) breaks only "goodHeader"
    ∷ (7 ≔ 154 ∷ []) breaks only "goodHeader"
    -- an edge less: the last one is free, so that the records read the same
    ∷ (3 ≔ 6 ∷ []) breaks only "goodHeader"
    -- a word too many, a word too few, no words
    ∷ (image ++ 0 ∷ [], only "goodHeader")
    ∷ (take 152 image, only "goodHeader")
    ∷ ([], "goodLimits" ∷ "goodHeader" ∷ [])
    ∷ []

-- ## Each record

-- "unused entries are zero"
abbrev tidy_cases : List Case
tidy_cases =
    -- the unused entry of a table in use
    (table 3 7 ≔ c ∷ []) breaks only "tidyTables"
    ∷ (table 1 9 ≔ 1 ∷ []) breaks only "tidyTables"
    -- a free table
    ∷ (table 4 1 ≔ a ∷ []) breaks only "tidyTables"
    ∷ (table 4 9 ≔ 1 ∷ []) breaks only "tidyTables"
    -- K entries; a count above that reads an entry past the table's end, whose slot index is then wrong too
    ∷ (table 2 7 ≔ c ∷ table 2 8 ≔ 7 ∷ table 2 9 ≔ 3 ∷ table 2 0 ≔ 4 ∷ []) breaks []
    ∷ (table 2 7 ≔ c ∷ table 2 8 ≔ 7 ∷ table 2 9 ≔ 3 ∷ table 2 0 ≔ 5 ∷ [])
    breaks ("tidyTables" ∷ "tablesGood" ∷ [])
    ∷ []

-- "States, kinds .. are in range;"
abbrev kind_cases : List Case
kind_cases =
    -- state 3, step kind 3, edge kind 2
    (shape 6 0 ≔ 3 ∷ []) breaks only "inRange"
    ∷ (shape 5 3 ≔ 3 ∷ []) breaks only "inRange"
    ∷ (edge 5 1 ≔ 2 ∷ []) breaks only "inRange"
    ∷ []

-- ".. and places": nothing stands past the end, which another sentence tells too.
abbrev place_cases : List Case
place_cases =
    -- a unique's previous, a root's table, an edge's parent, an edge's child
    (shape 6 2 ≔ 8 ∷ []) breaks ("inRange" ∷ "uniquesZero" ∷ [])
    ∷ (shape 1 7 ≔ 5 ∷ []) breaks ("inRange" ∷ "tableInUse" ∷ [])
    ∷ (edge 5 0 ≔ 8 ∷ []) breaks ("inRange" ∷ "edgesGood" ∷ [])
    ∷ (edge 5 4 ≔ 8 ∷ []) breaks ("inRange" ∷ "edgesGood" ∷ [])
    ∷ []

-- "a shape's table is in use;"
abbrev table_cases : List Case
table_cases =
    -- no table, and a free one
    (shape 1 7 ≔ 0 ∷ []) breaks only "tableInUse"
    ∷ (shape 1 7 ≔ 4 ∷ []) breaks only "tableInUse"
    ∷ []

-- "free records .. are zero."
abbrev free_cases : List Case
free_cases =
    -- the free shape's holds and last counter
    (shape 7 1 ≔ 1 ∷ []) breaks only "freeZero"
    ∷ (shape 7 9 ≔ 1 ∷ []) breaks only "freeZero"
    -- the free edge's kind and attributes
    ∷ (edge 7 1 ≔ 1 ∷ []) breaks only "freeZero"
    ∷ (edge 7 3 ≔ 7 ∷ []) breaks only "freeZero"
    ∷ []

-- ## Tables

-- "Each table has distinct good keys, attributes up to 31, and each slot index equal to the sum of the widths
-- before it": the unique's table, of which no other shape reads.
abbrev entry_cases : List Case
entry_cases =
    -- a key twice
    (table 3 4 ≔ a ∷ []) breaks only "tablesGood"
    -- the last good key, and a bad one
    ∷ (table 3 4 ≔ last_key ∷ []) breaks []
    ∷ (table 3 4 ≔ bad_key ∷ []) breaks only "tablesGood"
    -- attributes 31 and 32
    ∷ (table 3 5 ≔ 31 ∷ []) breaks []
    ∷ (table 3 5 ≔ 32 ∷ []) breaks only "tablesGood"
    -- the first slot index, and the second
    ∷ (table 3 3 ≔ 1 ∷ []) breaks only "tablesGood"
    ∷ (table 3 6 ≔ 2 ∷ []) breaks only "tablesGood"
    -- a wider first entry, and the slot index that goes with it
    ∷ (table 3 2 ≔ 14 ∷ []) breaks only "tablesGood"
    ∷ (table 3 2 ≔ 14 ∷ table 3 6 ≔ 2 ∷ []) breaks []
    ∷ []

-- "Each table in use is used by a shape; a unique shape's table by it alone."
abbrev user_cases : List Case
user_cases =
    -- an empty table that no shape uses, and the root using it
    (table 4 0 ≔ 1 ∷ []) breaks only "tablesUsed"
    ∷ (table 4 0 ≔ 1 ∷ shape 1 7 ≔ 4 ∷ []) breaks []
    -- the root uses the unique's table
    ∷ (shape 1 7 ≔ 3 ∷ []) breaks only "tablesUsed"
    ∷ []

-- "A shape's property count is at most its table's length, equal for a unique."
abbrev count_cases : List Case
count_cases =
    -- a shared shape's is above it; a unique's is above it, and below it
    (shape 3 5 ≔ 3 ∷ []) breaks only "countsFit"
    ∷ (shape 6 5 ≔ 3 ∷ []) breaks only "countsFit"
    ∷ (shape 6 5 ≔ 1 ∷ []) breaks only "countsFit"
    ∷ []

-- ## Shared shapes

-- "A root has previous, kind, both counts and prototype 0."
abbrev root_cases : List Case
root_cases =
    -- shape 6 as a second root, whose table may hold more than it does
    (shape 6 0 ≔ 1 ∷ shape 6 5 ≔ 0 ∷ []) breaks []
    -- its step kind, transition count, property count, prototype
    ∷ (shape 6 0 ≔ 1 ∷ shape 6 5 ≔ 0 ∷ shape 6 3 ≔ 1 ∷ []) breaks only "rootsZero"
    ∷ (shape 6 0 ≔ 1 ∷ shape 6 5 ≔ 0 ∷ shape 6 4 ≔ 1 ∷ []) breaks only "rootsZero"
    ∷ (shape 6 0 ≔ 1 ∷ []) breaks only "rootsZero"
    ∷ (shape 6 0 ≔ 1 ∷ shape 6 5 ≔ 0 ∷ shape 6 6 ≔ 9 ∷ []) breaks only "rootsZero"
    ∷ []

-- "Any other shared shape has a shared previous with one transition less, and is the child of exactly one
-- edge, whose parent is that previous."
abbrev link_cases : List Case
link_cases =
    -- the prototype's child has a transition too many, and one too few
    (shape 5 4 ≔ 3 ∷ []) breaks only "childrenLinked"
    ∷ (shape 5 4 ≔ 1 ∷ []) breaks only "childrenLinked"
    -- no edge: its edge is dead
    ∷ (edge 4 4 ≔ 0 ∷ []) breaks only "childrenLinked"
    -- shape 4 configures a to what it was; a second edge to it does so with b, which leads to the same keys
    ∷ (table 2 2 ≔ 7 ∷ edge 3 3 ≔ 7 ∷ []) breaks []
    ∷ (table 2 2 ≔ 7
    ∷ edge 3 3 ≔ 7
    ∷ edge 7 0 ≔ 3
    ∷ edge 7 2 ≔ b
    ∷ edge 7 3 ≔ 14
    ∷ edge 7 4 ≔ 4
    ∷ [])
    breaks only "childrenLinked"
    -- its edge starts elsewhere, which the edge's own sentence tells too
    ∷ (edge 4 0 ≔ 3 ∷ []) breaks ("childrenLinked" ∷ "edgesGood" ∷ [])
    -- its previous is the unique, which holds the same keys: then its edge has a parent that is not shared
    ∷ (shape 4 2 ≔ 6 ∷ shape 4 4 ≔ 1 ∷ edge 3 0 ≔ 6 ∷ []) breaks ("childrenLinked" ∷ "edgesGood" ∷ [])
    ∷ []

-- "Its first keys with their attributes, and its prototype, are the previous's with that step applied".
abbrev step_cases : List Case
step_cases =
    -- an insert: another key, other attributes, another prototype, a key too few
    (edge 2 2 ≔ c ∷ []) breaks only "childrenStepped"
    ∷ (edge 2 3 ≔ 7 ∷ []) breaks only "childrenStepped"
    ∷ (shape 3 6 ≔ 9 ∷ []) breaks only "childrenStepped"
    ∷ (shape 3 5 ≔ 1 ∷ []) breaks only "childrenStepped"
    -- a configure: other attributes, another prototype
    ∷ (edge 3 3 ≔ 4 ∷ []) breaks only "childrenStepped"
    ∷ (shape 4 6 ≔ 9 ∷ []) breaks only "childrenStepped"
    -- a configure of an absent key, which leaves the keys as they were
    ∷ (edge 3 2 ≔ c ∷ table 2 2 ≔ 7 ∷ []) breaks only "childrenStepped"
    -- a configure at another width, which the edge's own sentence tells too
    ∷ (edge 3 3 ≔ 14 ∷ table 2 2 ≔ 14 ∷ table 2 6 ≔ 2 ∷ []) breaks ("childrenStepped" ∷ "edgesGood" ∷ [])
    -- a prototype step: another prototype, a key too many
    ∷ (shape 5 6 ≔ 8 ∷ []) breaks only "childrenStepped"
    ∷ (shape 5 5 ≔ 2 ∷ []) breaks only "childrenStepped"
    -- an insert's shape that says configure
    ∷ (shape 3 3 ≔ 1 ∷ []) breaks only "childrenStepped"
    ∷ []

-- ## Edges

-- "No two edges agree in parent, kind, key or prototype, and attributes."
abbrev alike_cases : List Case
alike_cases =
    -- a dead property edge like a live one; with other attributes, or from another parent, it may stand
    (edge 6 2 ≔ a ∷ []) breaks only "edgesDiffer"
    ∷ (edge 6 2 ≔ a ∷ edge 6 3 ≔ 5 ∷ []) breaks []
    ∷ (edge 6 2 ≔ a ∷ edge 6 0 ≔ 2 ∷ []) breaks []
    -- a dead prototype edge like a live one; with another prototype it may stand
    ∷ (edge 5 0 ≔ 2 ∷ []) breaks only "edgesDiffer"
    ∷ (edge 5 0 ≔ 2 ∷ edge 5 2 ≔ 8 ∷ []) breaks []
    -- a property and a prototype edge with one number may stand together
    ∷ (edge 6 2 ≔ 9 ∷ edge 6 3 ≔ 0 ∷ []) breaks []
    ∷ []

-- "An edge's parent is shared; a property edge's key is good, its attributes up to 31 and of equal width
-- where the parent holds that key; a prototype edge has any prototype and attributes 0;"
abbrev edge_cases : List Case
edge_cases =
    -- the parent is a unique, and a free place
    (edge 5 0 ≔ 6 ∷ []) breaks only "edgesGood"
    ∷ (edge 5 0 ≔ 7 ∷ []) breaks only "edgesGood"
    -- the last good key, and a bad one
    ∷ (edge 6 2 ≔ last_key ∷ []) breaks []
    ∷ (edge 6 2 ≔ bad_key ∷ []) breaks only "edgesGood"
    -- attributes 31 and 32
    ∷ (edge 6 3 ≔ 31 ∷ []) breaks []
    ∷ (edge 6 3 ≔ 32 ∷ []) breaks only "edgesGood"
    -- from shape 2, which holds a at 7, to a at 14; and from the root, which does not hold it
    ∷ (edge 6 0 ≔ 2 ∷ edge 6 2 ≔ a ∷ edge 6 3 ≔ 14 ∷ []) breaks only "edgesGood"
    ∷ (edge 6 2 ≔ a ∷ edge 6 3 ≔ 14 ∷ []) breaks []
    -- any prototype; attributes of a dead prototype edge, and of a live one
    ∷ (edge 5 2 ≔ bad_key ∷ []) breaks []
    ∷ (edge 5 3 ≔ 1 ∷ []) breaks only "edgesGood"
    ∷ (edge 4 3 ≔ 1 ∷ []) breaks only "edgesGood"
    ∷ []

-- "an edge's child is 0 or a shared shape whose previous is that parent and whose step kind fits."
abbrev child_cases : List Case
child_cases =
    -- the child is a free place, a unique, a root
    (edge 5 4 ≔ 7 ∷ []) breaks only "edgesGood"
    ∷ (edge 5 4 ≔ 6 ∷ []) breaks only "edgesGood"
    ∷ (edge 5 4 ≔ 1 ∷ []) breaks only "edgesGood"
    -- a unique that has all else of a child, which no unique may have
    ∷ (edge 5 4 ≔ 6 ∷ shape 6 2 ≔ 1 ∷ shape 6 3 ≔ 2 ∷ []) breaks ("edgesGood" ∷ "uniquesZero" ∷ [])
    -- a property edge to the prototype's child
    ∷ (edge 4 1 ≔ 0 ∷ []) breaks only "edgesGood"
    ∷ []

-- ## Limits of a shape

-- "Transition counts are at most 1,024, and 1,024 has no holds." A previous must have one less, so that in an
-- image this small `children_linked` fails with any of them.
abbrev transition_cases : List Case
transition_cases =
    -- 1,023 held, 1,024 unheld
    (shape 5 4 ≔ 1023 ∷ []) breaks only "childrenLinked"
    ∷ (shape 5 4 ≔ 1024 ∷ shape 5 1 ≔ 0 ∷ []) breaks only "childrenLinked"
    -- 1,024 held, 1,025 unheld
    ∷ (shape 5 4 ≔ 1024 ∷ []) breaks ("childrenLinked" ∷ "transitionsLimited" ∷ [])
    ∷ (shape 5 4 ≔ 1025 ∷ shape 5 1 ≔ 0 ∷ []) breaks ("childrenLinked" ∷ "transitionsLimited" ∷ [])
    ∷ []

-- "Holds are at most 65,535, counters at most 255."
abbrev hold_cases : List Case
hold_cases =
    -- each at its limit, and past it
    (shape 1 1 ≔ 65535 ∷ shape 1 8 ≔ 255 ∷ shape 1 9 ≔ 255 ∷ []) breaks []
    ∷ (shape 1 1 ≔ 65536 ∷ []) breaks only "holdsLimited"
    ∷ (shape 1 8 ≔ 256 ∷ []) breaks only "holdsLimited"
    ∷ (shape 1 9 ≔ 256 ∷ []) breaks only "holdsLimited"
    -- a unique's holds
    ∷ (shape 6 1 ≔ 65536 ∷ []) breaks only "holdsLimited"
    ∷ []

-- "A unique shape has 0 in previous, kind, transition count and counters."
abbrev unique_cases : List Case
unique_cases =
    -- in the sentence's order
    (shape 6 2 ≔ 1 ∷ []) breaks only "uniquesZero"
    ∷ (shape 6 3 ≔ 1 ∷ []) breaks only "uniquesZero"
    ∷ (shape 6 4 ≔ 1 ∷ []) breaks only "uniquesZero"
    ∷ (shape 6 8 ≔ 1 ∷ []) breaks only "uniquesZero"
    ∷ (shape 6 9 ≔ 1 ∷ []) breaks only "uniquesZero"
    -- its holds and its prototype may be any
    ∷ (shape 6 1 ≔ 0 ∷ shape 6 6 ≔ 9 ∷ []) breaks []
    ∷ []

-- ## All of them

abbrev pub broken : List Case
broken =
    [] breaks []
    ∷ limits_cases
    ++ header_cases
    ++ tidy_cases
    ++ kind_cases
    ++ place_cases
    ++ table_cases
    ++ free_cases
    ++ entry_cases
    ++ user_cases
    ++ count_cases
    ++ root_cases
    ++ link_cases
    ++ step_cases
    ++ alike_cases
    ++ edge_cases
    ++ child_cases
    ++ transition_cases
    ++ hold_cases
    ++ unique_cases

-- The words after the calls that make the image.
unfoldable pub made : List ℕ
unfolding answers after flat words
made = words (after (blank size) (map (λ l. l.0) making))

unfoldable pub soundly : List ℕ → Bool
unfolding failing sound_words sound
soundly ws = sound ws

abbrev none : List String → Bool
none [] = true
none (n ∷ ns) = false

-- The sentences that fail; sound is that none does; the image is what the calls make; two broken images are
-- refused and given back as they were.
pub broken_right :
    (map (λ x. failing x.0) broken ≡ map (λ x. x.1) broken)
    × (map (λ x. soundly x.0) broken ≡ map (λ x. none x.1) broken)
    × (made ≡ image)
    × (called_on image (hold 1) ≡ (gives 1 0, false))
    × (called_on (changed image (table 3 7 ≔ c ∷ [])) (hold 1) ≡ (No Damaged, true))
    × (called_on (changed image (shape 6 2 ≔ 1 ∷ [])) (hold 1) ≡ (No Damaged, true))
unfolding failing made soundly called_on
broken_right = (refl, refl, refl, refl, refl, refl)
