-- Document 01, "When a call says no": each refusal met, with its neighbour that is not refused, as one
-- table with a single theorem, computed.
-- Assumes nothing.
use Rattle.std.specs.Prelude.{Bool, true, false, List, [], ◌∷◌, ◌++◌, map, ◌≡◌, refl, ℕ, ◌-◌, ◌*◌, ◌^◌, replicate}
use Rattle.store.specs.Lists.{agree}
use Rattle.store.specs.Layout.{good_limits, header, flat, rows, words, parse}
use Rattle.store.specs.Model.{Model, blank, shape_at, put_shape}
use Rattle.store.specs.declared.Limits.{Limits}
use Rattle.rules.specs.declared.Refusal.TheVariants.{Damaged, BadKey, BadAttributes, NoShape, Present}
use Rattle.rules.specs.declared.Refusal.TheVariants.{Absent, KeysFull, ShapesFull, TablesFull}
use Rattle.rules.specs.declared.Refusal.TheVariants.{EdgesFull, HoldsFull, BadSize, OutShort}
use Rattle.rules.specs.Shapes.{with_holds}
use Rattle.rules.specs.Steps.{put_counter}
use Rattle.rules.specs.Sound.{sound_words}
use Rattle.rules.specs.Calls.{Call, new_root, new_unique, insert_key, change_key, remove_key}
use Rattle.rules.specs.Calls.{change_prototype, hold, release, previous, sweep, ask, lookup, keys_into}
use Rattle.rules.specs.Calls.{prototype_of, is_shared, transitions_of, properties_of, Freed, Done, Listed}
use Rattle.rules.specs.Calls.{Number, Reply, No, Yes, call, call_on, after, format}
use Rattle.rules.specs.Transcript.{Line, ◌⇒◌, answers, gives, at, nowhere, limits, a, b, c}

-- ## Transcripts from an image

abbrev pub Scene : Type 0
Scene = Model × List Line

abbrev calls : List Line → List Call
calls ls = map (λ l. l.0) ls

-- A model after a transcript.
abbrev pub played : Limits → List Line → Model
played l ls = after (blank l) (calls ls)

-- "Every one .. leaves all lent words unchanged": a call that is not refused passes.
abbrev unchanged : Model → Model × Reply → Bool
unchanged before (after, No r) = agree (words before) (words after)
unchanged before (after, Yes x) = true

-- The replies to a transcript's calls, each with that test.
unfoldable pub replies : Scene → List (Reply × Bool)
unfolding answers after flat words
replies (m, []) = []
replies (m, l ∷ ls) = let r = call m l.0 in (r.1, unchanged m r) ∷ replies (r.0, ls)

abbrev pub foretold : Scene → List (Reply × Bool)
foretold (m, ls) = map (λ l. (l.1, true)) ls

-- ## 2 to 6 and 13: tested on the arguments

abbrev few : Limits
few = limits 5 3 2 5

-- Kind 3, and the last good key.
abbrev pub bad_key : ℕ
bad_key = 3 * 2 ^ 30

abbrev pub last_key : ℕ
last_key = 3 * 2 ^ 30 - 1

-- Shape 1 is the root, 2 holds a, 3 holds a but has no holds itself, 4 is free.
abbrev family : List Line
family =
    new_root ⇒ gives 1 0
    ∷ insert_key 1 a 7 ⇒ gives 2 1
    ∷ change_prototype 2 9 ⇒ gives 3 2
    ∷ release 3 ⇒ Yes Done
    ∷ []

-- BadKey: "kind 3"; it is tested before 3, 4, 5 and 6.
abbrev bad_keys : List Line
bad_keys =
    family
    ++ insert_key 2 bad_key 7 ⇒ No BadKey
    ∷ insert_key 0 bad_key 32 ⇒ No BadKey
    ∷ change_key 2 bad_key 7 ⇒ No BadKey
    ∷ change_key 0 bad_key 32 ⇒ No BadKey
    ∷ remove_key 2 bad_key ⇒ No BadKey
    ∷ remove_key 0 bad_key ⇒ No BadKey
    ∷ ask 2 (lookup bad_key) ⇒ No BadKey
    ∷ ask 0 (lookup bad_key) ⇒ No BadKey
    ∷ ask 2 (lookup last_key) ⇒ nowhere
    ∷ insert_key 2 last_key 7 ⇒ gives 4 2
    ∷ change_key 4 last_key 5 ⇒ gives 5 3
    ∷ remove_key 5 last_key ⇒ gives 2 1
    ∷ []

-- BadAttributes: "above 31"; it is tested before 4, 5 and 6.
abbrev bad_attributes : List Line
bad_attributes =
    family
    ++ insert_key 2 b 32 ⇒ No BadAttributes
    ∷ insert_key 0 b 32 ⇒ No BadAttributes
    ∷ insert_key 2 a 32 ⇒ No BadAttributes
    ∷ change_key 2 a 32 ⇒ No BadAttributes
    ∷ change_key 0 a 32 ⇒ No BadAttributes
    ∷ change_key 2 b 32 ⇒ No BadAttributes
    ∷ insert_key 2 b 31 ⇒ gives 4 2
    ∷ change_key 4 b 24 ⇒ gives 5 3
    ∷ []

-- NoShape: "place 0, above S, free, or without holds"; few has S 5.
abbrev no_shapes : List Line
no_shapes =
    family
    ++ hold 0 ⇒ No NoShape
    ∷ hold 6 ⇒ No NoShape
    ∷ hold 5 ⇒ No NoShape
    ∷ hold 4 ⇒ No NoShape
    ∷ hold 3 ⇒ No NoShape
    ∷ change_prototype 2 9 ⇒ gives 3 2
    ∷ hold 3 ⇒ gives 3 2
    ∷ []

-- Every call that takes a shape tests it; before 5, 6 and 13.
abbrev no_shape_first : List Line
no_shape_first =
    family
    ++ insert_key 3 a 7 ⇒ No NoShape
    ∷ change_key 3 b 7 ⇒ No NoShape
    ∷ remove_key 3 b ⇒ No NoShape
    ∷ change_prototype 3 9 ⇒ No NoShape
    ∷ release 3 ⇒ No NoShape
    ∷ previous 3 ⇒ No NoShape
    ∷ ask 3 (lookup a) ⇒ No NoShape
    ∷ ask 3 (keys_into []) ⇒ No NoShape
    ∷ ask 3 prototype_of ⇒ No NoShape
    ∷ ask 3 is_shared ⇒ No NoShape
    ∷ ask 3 transitions_of ⇒ No NoShape
    ∷ ask 3 properties_of ⇒ No NoShape
    ∷ []

-- The same calls on a held shape.
abbrev held_shape : List Line
held_shape =
    family
    ++ previous 2 ⇒ gives 1 0
    ∷ ask 2 (lookup a) ⇒ at 0 7
    ∷ ask 2 prototype_of ⇒ Yes (Number 0)
    ∷ ask 2 is_shared ⇒ Yes (Number 1)
    ∷ ask 2 transitions_of ⇒ Yes (Number 1)
    ∷ ask 2 properties_of ⇒ Yes (Number 1)
    ∷ release 2 ⇒ Yes Done
    ∷ []

-- Present: "insert of a held key", also with other attributes; a unique's too.
abbrev presents : List Line
presents =
    family
    ++ insert_key 2 a 7 ⇒ No Present
    ∷ insert_key 2 a 14 ⇒ No Present
    ∷ insert_key 1 a 7 ⇒ gives 2 1
    ∷ new_unique ⇒ gives 4 0
    ∷ insert_key 4 a 7 ⇒ gives 4 0
    ∷ insert_key 4 a 7 ⇒ No Present
    ∷ []

-- Absent: "change of an absent key; removal of one from a shared shape". The root's table holds a, the root
-- does not.
abbrev absents : List Line
absents =
    family
    ++ change_key 2 b 7 ⇒ No Absent
    ∷ change_key 1 a 7 ⇒ No Absent
    ∷ remove_key 2 b ⇒ No Absent
    ∷ remove_key 1 a ⇒ No Absent
    ∷ new_unique ⇒ gives 4 0
    ∷ change_key 4 a 7 ⇒ No Absent
    ∷ remove_key 4 a ⇒ gives 4 0
    ∷ remove_key 2 a ⇒ gives 1 0
    ∷ []

-- OutShort: "list longer than the lent slice"
abbrev out_short : List Line
out_short =
    family
    ++ ask 2 (keys_into []) ⇒ No OutShort
    ∷ ask 2 (keys_into (8 ∷ [])) ⇒ Yes (Listed 1 (a ∷ []))
    ∷ ask 1 (keys_into []) ⇒ Yes (Listed 0 [])
    ∷ []

-- ## 7 to 10: no room

-- A root with a child that holds a: two shapes, one table, one edge.
abbrev pair : List Line
pair = new_root ⇒ gives 1 0 ∷ insert_key 1 a 7 ⇒ gives 2 1 ∷ []

-- A step that must add to K keys, with no shape and no edge free: "the lowest that applies". (It never wants a
-- table as well: K keys are all that the parent's table can hold, so that the insert would append.)
abbrev keys_first : Scene
keys_first = (blank (limits 2 1 1 1), pair ++ insert_key 2 b 7 ⇒ No KeysFull ∷ [])

-- A shape, a table and an edge are needed: none is free.
abbrev shapes_first : Scene
shapes_first = (blank (limits 2 1 1 1), pair ++ change_key 2 a 5 ⇒ No ShapesFull ∷ [])

-- A shape is free; an insert with K keys still adds to them.
abbrev tables_next : Scene
tables_next =
    (blank (limits 3 1 1 1), pair ++ change_key 2 a 5 ⇒ No TablesFull ∷ insert_key 2 b 7 ⇒ No KeysFull ∷ [])

-- A shape and a table are free.
abbrev edges_last : Scene
edges_last =
    (blank (limits 3 2 1 1), pair ++ change_key 2 a 5 ⇒ No EdgesFull ∷ change_prototype 2 9 ⇒ No EdgesFull ∷ [])

-- All three are free; then K keys, and no shape, table or edge, and the live edge is still taken.
abbrev room : Scene
room = (
  blank (limits 3 2 1 2),
  pair
      ++ change_key 2 a 5 ⇒ gives 3 2
      ∷ change_key 2 a 5 ⇒ gives 3 2
      ∷ insert_key 1 a 7 ⇒ gives 2 1
      ∷ change_prototype 3 9 ⇒ No ShapesFull
      ∷ remove_key 3 a ⇒ gives 1 0
      ∷ [],
)

-- With K 2 the same insert has room; its table is the parent's.
abbrev keys_room : Scene
keys_room = (blank (limits 3 1 2 2), pair ++ insert_key 2 b 7 ⇒ gives 3 2 ∷ [])

-- 5 and 6 are tested before 7 to 10.
abbrev arguments_first : Scene
arguments_first = (
  blank (limits 2 1 1 1),
  pair ++ insert_key 2 a 7 ⇒ No Present ∷ change_key 2 b 7 ⇒ No Absent ∷ remove_key 2 b ⇒ No Absent ∷ [],
)

-- A new root and a new unique need a shape and a table.
abbrev roots_full : List Scene
roots_full =
    -- neither is free
    (blank (limits 1 1 1 1), new_root ⇒ gives 1 0 ∷ new_root ⇒ No ShapesFull ∷ new_unique ⇒ No ShapesFull ∷ [])
    -- a shape is free
    ∷ (blank (limits 2 1 1 1), new_root ⇒ gives 1 0 ∷ new_root ⇒ No TablesFull ∷ new_unique ⇒ No TablesFull ∷ [])
    -- both are free, for one
    ∷ (blank (limits 2 2 1 1), new_root ⇒ gives 1 0 ∷ new_unique ⇒ gives 2 0 ∷ new_root ⇒ No ShapesFull ∷ [])
    ∷ []

-- "a unique's insert, new shape and table count as steps": with K 1, and no shape but its own.
abbrev unique_alone : Scene
unique_alone = (
  blank (limits 1 1 1 1),
  new_unique ⇒ gives 1 0
      ∷ insert_key 1 a 7 ⇒ gives 1 0
      ∷ insert_key 1 b 7 ⇒ No KeysFull
      ∷ change_key 1 a 5 ⇒ gives 1 0
      ∷ change_key 1 a 14 ⇒ No ShapesFull
      ∷ remove_key 1 b ⇒ gives 1 0
      ∷ remove_key 1 a ⇒ No ShapesFull
      ∷ change_prototype 1 9 ⇒ No ShapesFull
      ∷ ask 1 (lookup a) ⇒ at 0 5
      ∷ [],
)

-- A place for its new shape, and none for the table.
abbrev unique_table : Scene
unique_table = (
  blank (limits 2 1 1 1),
  new_unique ⇒ gives 1 0
      ∷ insert_key 1 a 7 ⇒ gives 1 0
      ∷ change_key 1 a 14 ⇒ No TablesFull
      ∷ remove_key 1 a ⇒ No TablesFull
      ∷ change_prototype 1 9 ⇒ No TablesFull
      ∷ [],
)

-- The child is swept: the root's edge for a is dead, and its property counter is 1.
abbrev childless : List Line
childless = pair ++ release 2 ⇒ Yes Done ∷ sweep ⇒ Yes (Freed 1 0) ∷ []

-- EdgesFull: "an edge is needed, none free after this step's prunes"
abbrev prune_gives : List Scene
prune_gives =
    -- a dead edge that the step does not meet is not pruned, the one that it meets is
    (blank (limits 3 2 1 1), childless ++ insert_key 1 b 7 ⇒ No EdgesFull ∷ insert_key 1 a 7 ⇒ gives 2 1 ∷ [])
    -- at 255 any is
    ∷ (put_counter (played (limits 3 2 1 1) childless) 1 0 255, insert_key 1 b 7 ⇒ gives 2 1 ∷ [])
    ∷ []

-- Three keys in a row, of which a is removed: one step inserts b and the next inserts c, the first with a
-- table of its own.
abbrev line : List Line
line = pair ++ insert_key 2 b 7 ⇒ gives 3 2 ∷ insert_key 3 c 7 ⇒ gives 4 3 ∷ []

-- "the lowest that applies in the first step that meets one"
abbrev two_steps : List Scene
two_steps =
    -- the first step wants a table and an edge, the second a shape
    (blank (limits 5 1 3 3), line ++ remove_key 4 a ⇒ No TablesFull ∷ [])
    -- the first wants an edge, the second a shape
    ∷ (blank (limits 5 2 3 3), line ++ remove_key 4 a ⇒ No EdgesFull ∷ [])
    -- the second wants a shape; of the first nothing is left: its shape and table are free
    ∷ (blank (limits 5 2 3 4), line ++ remove_key 4 a ⇒ No ShapesFull ∷ new_root ⇒ gives 5 0 ∷ [])
    -- neither wants
    ∷ (blank (limits 6 2 3 5), line ++ remove_key 4 a ⇒ gives 6 2 ∷ [])
    ∷ []

-- ## 11: holds

-- A model with other holds at a place.
abbrev pub with_holds_at : Model → (place holds : ℕ) → Model
with_holds_at m n h = put_shape m n (with_holds (shape_at m n) h)

-- HoldsFull: "the result already has 65,535 holds"; the last one is still granted, and a release makes room.
abbrev holds_full : Scene
holds_full = (
  with_holds_at (played (limits 2 1 1 1) pair) 2 65534,
  hold 2 ⇒ gives 2 1
      ∷ hold 2 ⇒ No HoldsFull
      ∷ insert_key 1 a 7 ⇒ No HoldsFull
      ∷ release 2 ⇒ Yes Done
      ∷ insert_key 1 a 7 ⇒ gives 2 1
      ∷ [],
)

-- The result counts, not the shape that is asked: a root's child, and the way back to the root.
abbrev root_held : Scene
root_held = (
  with_holds_at (played (limits 3 1 1 2) pair) 1 65535,
  previous 2 ⇒ No HoldsFull
      ∷ remove_key 2 a ⇒ No HoldsFull
      ∷ insert_key 1 a 7 ⇒ gives 2 1
      ∷ change_prototype 1 9 ⇒ gives 3 1
      ∷ [],
)

-- A unique's insert and equal-width change write nothing when its holds are full; 7 is tested first; a new
-- shape is granted.
abbrev unique_held : Scene
unique_held = (
  with_holds_at (played (limits 2 2 1 1) (new_unique ⇒ gives 1 0 ∷ [])) 1 65534,
  insert_key 1 a 7 ⇒ gives 1 0
      ∷ change_key 1 a 5 ⇒ No HoldsFull
      ∷ ask 1 (lookup a) ⇒ at 0 7
      ∷ insert_key 1 b 7 ⇒ No KeysFull
      ∷ remove_key 1 b ⇒ No HoldsFull
      ∷ remove_key 1 a ⇒ gives 2 0
      ∷ insert_key 1 b 7 ⇒ No HoldsFull
      ∷ ask 1 properties_of ⇒ Yes (Number 0)
      ∷ [],
)

-- ## 1: damaged

-- "image not sound (all but formatting)": tested before anything else, by every call.
abbrev damaged : Scene
damaged = (
  with_holds_at (played (limits 2 1 1 1) pair) 2 65536,
  new_root ⇒ No Damaged
      ∷ new_unique ⇒ No Damaged
      ∷ insert_key 0 bad_key 32 ⇒ No Damaged
      ∷ change_key 0 bad_key 32 ⇒ No Damaged
      ∷ remove_key 0 bad_key ⇒ No Damaged
      ∷ change_prototype 0 9 ⇒ No Damaged
      ∷ hold 2 ⇒ No Damaged
      ∷ release 2 ⇒ No Damaged
      ∷ previous 2 ⇒ No Damaged
      ∷ sweep ⇒ No Damaged
      ∷ ask 0 (lookup bad_key) ⇒ No Damaged
      ∷ ask 2 (keys_into []) ⇒ No Damaged
      ∷ ask 2 prototype_of ⇒ No Damaged
      ∷ ask 2 is_shared ⇒ No Damaged
      ∷ ask 2 transitions_of ⇒ No Damaged
      ∷ ask 2 properties_of ⇒ No Damaged
      ∷ [],
)

-- ## "leaves all lent words unchanged, prunes included"

-- The same, and place 2 is taken again, by another root.
abbrev dead_edge : List Line
dead_edge = childless ++ new_root ⇒ gives 2 0 ∷ []

-- Its words: the property counter of shape 1 is 1, its table still has the entry, and the edge has no child.
abbrev dead_words : List ℕ
dead_words =
    (2 ∷ 2 ∷ 1 ∷ 1 ∷ 8 ∷ 28 ∷ 36 ∷ 41 ∷ [])
    ++ (1 ∷ 1 ∷ 0 ∷ 0 ∷ 0 ∷ 0 ∷ 0 ∷ 1 ∷ 1 ∷ 0 ∷ [])
    ++ (1 ∷ 1 ∷ 0 ∷ 0 ∷ 0 ∷ 0 ∷ 0 ∷ 2 ∷ 0 ∷ 0 ∷ [])
    ++ (2 ∷ a ∷ 7 ∷ 0 ∷ [])
    ++ (1 ∷ 0 ∷ 0 ∷ 0 ∷ [])
    ++ (1 ∷ 0 ∷ a ∷ 7 ∷ 0 ∷ [])

-- The step meets the dead edge and prunes it, but finds no shape.
abbrev met_dead : Scene
met_dead = (blank (limits 2 2 1 1), dead_edge ++ insert_key 1 a 7 ⇒ No ShapesFull ∷ [])

-- The counter is 255, so that a step for another key prunes too, but finds no shape.
abbrev met_counter : Scene
met_counter = (put_counter (played (limits 2 2 1 1) dead_edge) 1 0 255, insert_key 1 b 7 ⇒ No ShapesFull ∷ [])

-- A removal's first step prunes the dead edge for b and takes its place; its second finds no edge.
abbrev met_first : Scene
met_first = (
  blank (limits 7 2 3 5),
  line
      ++ remove_key 4 a ⇒ gives 6 2
      ∷ release 6 ⇒ Yes Done
      ∷ sweep ⇒ Yes (Freed 2 1)
      ∷ change_prototype 4 9 ⇒ gives 5 4
      ∷ remove_key 4 a ⇒ No EdgesFull
      ∷ [],
)

-- ## 12: formatting

-- The image of the least limits has 27 words.
abbrev least : Limits
least = limits 1 1 1 1

abbrev lent : ℕ → List ℕ
lent n = replicate n 9

abbrev bad_size : List ℕ → List ℕ × Reply
bad_size ws = (ws, No BadSize)

-- "a limit or the total out of range, or slice length differs from the total"; with neither it is done.
abbrev formattings : List (Limits × List ℕ × (List ℕ × Reply))
formattings =
    (least, lent 27, (header least ++ replicate 19 0, Yes Done))
    ∷ (least, lent 26, bad_size (lent 26))
    ∷ (least, lent 28, bad_size (lent 28))
    ∷ (least, [], bad_size [])
    ∷ (limits 0 1 1 1, lent 17, bad_size (lent 17))
    ∷ (limits 1 0 1 1, lent 23, bad_size (lent 23))
    ∷ (limits 1 1 0 1, lent 24, bad_size (lent 24))
    ∷ (limits 1 1 1 0, lent 22, bad_size (lent 22))
    ∷ (limits 1 1 2049 1, lent 6171, bad_size (lent 6171))
    ∷ []

-- The ranges of the limits and of the total, each at its end and past it.
abbrev ranges : List (Limits × Bool)
ranges =
    (limits 65535 1 1 1, true)
    ∷ (limits 65536 1 1 1, false)
    ∷ (limits 1 65535 1 1, true)
    ∷ (limits 1 65536 1 1, false)
    ∷ (limits 1 1 2048 1, true)
    ∷ (limits 1 1 2049 1, false)
    ∷ (limits 1 1 1 65535, true)
    ∷ (limits 1 1 1 65536, false)
    ∷ (limits 1000 2729 2047 1138, true)
    ∷ (limits 1000 2729 2047 1139, false)
    ∷ []

-- ## All of the scenes

abbrev from_few : List Line → Scene
from_few ls = (blank few, ls)

abbrev pub refusals : List Scene
refusals =
    map from_few (bad_keys ∷ bad_attributes ∷ no_shapes ∷ no_shape_first ∷ held_shape ∷ [])
    ++ map from_few (presents ∷ absents ∷ out_short ∷ [])
    ++ (keys_first ∷ shapes_first ∷ tables_next ∷ edges_last ∷ room ∷ keys_room ∷ arguments_first ∷ [])
    ++ roots_full
    ++ (unique_alone ∷ unique_table ∷ [])
    ++ prune_gives
    ++ two_steps
    ++ (holds_full ∷ root_held ∷ unique_held ∷ damaged ∷ met_dead ∷ met_counter ∷ met_first ∷ [])

-- ## The theorem

-- A call on words: its reply, and whether it gives the same words back.
unfoldable pub called_on : List ℕ → Call → Reply × Bool
unfolding replies rows parse sound_words call_on
called_on ws x = let r = call_on ws x in (r.1, agree r.0 ws)

unfoldable pub formatted_by : Limits → List ℕ → List ℕ × Reply
unfolding format
formatted_by l ws = format l ws

unfoldable pub words_after : Limits → List Line → List ℕ
unfolding replies
words_after l ls = words (played l ls)

-- The scenes; the words of the dead edge, and two calls on them; formatting and its ranges.
pub refusals_right :
    (map replies refusals ≡ map foretold refusals)
    × (words_after (limits 2 2 1 1) dead_edge ≡ dead_words)
    × (map (called_on dead_words) (insert_key 1 a 7 ∷ hold 1 ∷ [])
    ≡ (No ShapesFull, true) ∷ (gives 1 0, false) ∷ [])
    × (map (λ x. formatted_by x.0 x.1) formattings ≡ map (λ x. x.2) formattings)
    × (map (λ x. good_limits x.0) ranges ≡ map (λ x. x.1) ranges)
unfolding replies called_on formatted_by words_after
refusals_right = (refl, refl, refl, refl, refl)
