-- Document 01's rules at work: sweeps, dead edges and counters, tables, uniques, rollbacks, freed places and holds,
-- as one table with a single theorem, computed.
-- Assumes nothing.
use Rattle.std.specs.Prelude.{List, [], ◌∷◌, ◌++◌, map, ◌≡◌, refl, ℕ, replicate}
use Rattle.store.specs.Model.{Table, free, used, Model, blank, no_shape, no_edge}
use Rattle.store.specs.Layout.{words}
use Rattle.store.specs.declared.Shape.{Shape}
use Rattle.store.specs.declared.Edge.{Edge}
use Rattle.rules.specs.declared.ChangeTransitionAction.TheVariants.{Insert}
use Rattle.rules.specs.declared.Refusal.TheVariants.{NoShape}
use Rattle.rules.specs.Shapes.{entry}
use Rattle.rules.specs.Calls.{new_root, new_unique, insert_key, change_key, remove_key, change_prototype, hold}
use Rattle.rules.specs.Calls.{release, previous, sweep, ask, lookup, prototype_of, is_shared, properties_of}
use Rattle.rules.specs.Calls.{Given, Freed, Done, Number, Reply, No, Yes, after}
use Rattle.rules.specs.Transcript.{Line, ◌⇒◌, answers, expected, gives, at, small, limits, image, shape, edge, a, b, c, s}
use Rattle.rules.specs.Refused.{replies}

-- ## From an image through a transcript to an image

-- An image, calls with their replies, and the image after them.
abbrev Tale : Type 0
Tale = Model × List Line × Model

-- What the rules say of it, and what it says itself.
unfoldable pub told : Tale → List Reply × List ℕ
unfolding replies
told (m, ls, end) = (answers m ls, words (after m (map (λ l. l.0) ls)))

unfoldable pub foretold : Tale → List Reply × List ℕ
unfolding replies
foretold (m, ls, end) = (expected ls, words end)

-- ## A sweep

-- Shapes 1 and 3 stay held; 2 is on the way from 3 to its root. Shape 4 configures 2's a, 5 is its child, 6
-- a unique.
abbrev sweeping : List Line
sweeping =
    new_root ⇒ gives 1 0
    ∷ insert_key 1 a 7 ⇒ gives 2 1
    ∷ insert_key 2 b 7 ⇒ gives 3 2
    ∷ change_key 2 a 5 ⇒ gives 4 2
    ∷ change_prototype 4 9 ⇒ gives 5 3
    ∷ new_unique ⇒ gives 6 0
    ∷ release 2 ⇒ Yes Done
    ∷ release 4 ⇒ Yes Done
    ∷ release 6 ⇒ Yes Done
    ∷ []

-- While 5 is held, 4 and its table stay, though 4 has no holds; the unique and its table go.
abbrev sweep_one : Tale
sweep_one = (
  blank (limits 6 3 2 5),
  sweeping ++ sweep ⇒ Yes (Freed 1 1) ∷ sweep ⇒ Yes (Freed 0 0) ∷ [],
  image
      2
      (shape 1 1 0 0 0 0 0 1 1 0
      ∷ shape 1 0 1 0 1 1 0 1 2 0
      ∷ shape 1 1 2 0 2 2 0 1 0 0
      ∷ shape 1 0 2 1 2 1 0 2 0 1
      ∷ shape 1 1 4 2 3 1 9 2 0 0
      ∷ no_shape
      ∷ [])
      (used (entry a 7 0 ∷ entry b 7 1 ∷ []) ∷ used (entry a 5 0 ∷ entry b 7 1 ∷ []) ∷ free ∷ [])
      (edge 1 0 a 7 2 ∷ edge 2 0 b 7 3 ∷ edge 2 0 a 5 4 ∷ edge 4 1 9 0 5 ∷ no_edge ∷ []),
)

-- Then three shapes and two tables go; the edge from 4 goes with it, and the edge to 4 is dead.
abbrev sweep_all : Tale
sweep_all = (
  blank (limits 6 3 2 5),
  sweeping ++ release 5 ⇒ Yes Done ∷ sweep ⇒ Yes (Freed 3 2) ∷ [],
  image
      2
      (shape 1 1 0 0 0 0 0 1 1 0
      ∷ shape 1 0 1 0 1 1 0 1 2 0
      ∷ shape 1 1 2 0 2 2 0 1 0 0
      ∷ replicate 3 no_shape)
      (used (entry a 7 0 ∷ entry b 7 1 ∷ []) ∷ free ∷ free ∷ [])
      (edge 1 0 a 7 2 ∷ edge 2 0 b 7 3 ∷ edge 2 0 a 5 0 ∷ no_edge ∷ no_edge ∷ []),
)

-- After that a leads to shape 2 again, and the dead edge is met: the child is made anew, the counter
-- is 1, and shape 3, held throughout, is the same.
abbrev met_again : Tale
met_again = (
  sweep_all.2,
  insert_key 1 a 7 ⇒ gives 2 1
      ∷ change_key 2 a 5 ⇒ gives 4 2
      ∷ insert_key 2 b 7 ⇒ gives 3 2
      ∷ ask 3 (lookup a) ⇒ at 0 7
      ∷ ask 3 (lookup b) ⇒ at 1 7
      ∷ [],
  image
      2
      (shape 1 1 0 0 0 0 0 1 1 0
      ∷ shape 1 1 1 0 1 1 0 1 1 0
      ∷ shape 1 2 2 0 2 2 0 1 0 0
      ∷ shape 1 1 2 1 2 1 0 2 0 0
      ∷ replicate 2 no_shape)
      (used (entry a 7 0 ∷ entry b 7 1 ∷ []) ∷ used (entry a 5 0 ∷ entry b 7 1 ∷ []) ∷ free ∷ [])
      (edge 1 0 a 7 2 ∷ edge 2 0 b 7 3 ∷ edge 2 0 a 5 4 ∷ no_edge ∷ no_edge ∷ []),
)

-- ## Dead edges and counters

-- Two roots, 1 with a child 3 that holds c. Edges 2 and 4 are dead property edges of root 1, edge 3 is its
-- dead prototype edge, edge 5 a dead property edge of root 2. What may change is given: root 1's counters,
-- shape 4, table 3, the edges 2, 3, 4 and 6.
abbrev roots : (x y holds3 : ℕ) → Shape → Table → (e2 e3 e4 e6 : Edge) → Model
roots x y h s4 t3 e2 e3 e4 e6 =
    image
    2
    (shape 1 1 0 0 0 0 0 1 x y ∷ shape 1 1 0 0 0 0 0 2 0 0 ∷ shape 1 h 1 0 1 1 0 1 0 0 ∷ s4 ∷ [])
    (used (entry c 7 0 ∷ []) ∷ used [] ∷ t3 ∷ [])
    (edge 1 0 c 7 3 ∷ e2 ∷ e3 ∷ e4 ∷ edge 2 0 a 7 0 ∷ e6 ∷ [])

abbrev dead_a : Edge
dead_a = edge 1 0 a 7 0

abbrev dead_b : Edge
dead_b = edge 1 0 b 7 0

abbrev dead9 : Edge
dead9 = edge 1 1 9 0 0

-- Before: the counters.
abbrev counters : (x y : ℕ) → Model
counters x y = roots x y 1 no_shape free dead_a dead9 dead_b no_edge

-- A new child by an insert, and by a prototype step; the insert's table.
abbrev by_insert : Shape
by_insert = shape 1 1 1 0 1 1 0 3 0 0

abbrev by_prototype : (to : ℕ) → Shape
by_prototype p = shape 1 1 1 2 1 0 p 1 0 0

abbrev pub alone : ℕ → Table
alone k = used (entry k 7 0 ∷ [])

-- One call from it each.
abbrev counting : List Tale
counting =
    -- a dead edge is met: a and b are pruned, the counter is 0, then 1; the new edge has a place just pruned
    (
      counters 5 6,
      insert_key 1 a 7 ⇒ gives 4 1 ∷ [],
      roots 1 6 1 by_insert (alone a) (edge 1 0 a 7 4) dead9 no_edge no_edge,
    )
    -- the same at 255: the counter is 0 when it is looked at, so it is 1 again
    ∷ (
      counters 255 6,
      insert_key 1 a 7 ⇒ gives 4 1 ∷ [],
      roots 1 6 1 by_insert (alone a) (edge 1 0 a 7 4) dead9 no_edge no_edge,
    )
    -- a dead prototype edge is met: only that kind is pruned
    ∷ (
      counters 5 6,
      change_prototype 1 9 ⇒ gives 4 1 ∷ [],
      roots 5 1 1 (by_prototype 9) free dead_a (edge 1 1 9 0 4) dead_b no_edge,
    )
    -- a new key at 254: 255, nothing is pruned, the new edge takes the free place
    ∷ (
      counters 254 6,
      insert_key 1 s 7 ⇒ gives 4 1 ∷ [],
      roots 255 6 1 by_insert (alone s) dead_a dead9 dead_b (edge 1 0 s 7 4),
    )
    -- a new key at 255: 0, root 1's dead property edges are pruned, and no others
    ∷ (
      counters 255 6,
      insert_key 1 s 7 ⇒ gives 4 1 ∷ [],
      roots 0 6 1 by_insert (alone s) (edge 1 0 s 7 4) dead9 no_edge no_edge,
    )
    -- a new prototype at 255: 0, its dead prototype edges are pruned, and no others
    ∷ (
      counters 5 255,
      change_prototype 1 8 ⇒ gives 4 1 ∷ [],
      roots 5 0 1 (by_prototype 8) free dead_a (edge 1 1 8 0 4) dead_b no_edge,
    )
    -- a new prototype while the property counter is 255: that one stays
    ∷ (
      counters 255 6,
      change_prototype 1 8 ⇒ gives 4 1 ∷ [],
      roots 255 7 1 (by_prototype 8) free dead_a dead9 dead_b (edge 1 1 8 0 4),
    )
    -- a live edge: no counter is touched and nothing is pruned, at 255 too
    ∷ (
      counters 255 255,
      insert_key 1 c 7 ⇒ gives 3 1 ∷ [],
      roots 255 255 2 no_shape free dead_a dead9 dead_b no_edge,
    )
    ∷ []

-- ## Tables

-- Where the table has moved on, an insert copies the first entries to a new one (c after a; b from the
-- root); at the end it appends to the same (b after a; s after c). Configure copies the whole table,
-- prototype shares it.
abbrev tables : Tale
tables = (
  blank (limits 8 4 3 7),
  new_root ⇒ gives 1 0
      ∷ insert_key 1 a 14 ⇒ gives 2 1
      ∷ insert_key 2 b 7 ⇒ gives 3 2
      ∷ insert_key 2 c 7 ⇒ gives 4 2
      ∷ insert_key 4 s 7 ⇒ gives 5 3
      ∷ insert_key 1 b 7 ⇒ gives 6 1
      ∷ change_key 2 a 8 ⇒ gives 7 2
      ∷ change_prototype 2 9 ⇒ gives 8 2
      ∷ [],
  image
      3
      (shape 1 1 0 0 0 0 0 1 2 0
      ∷ shape 1 1 1 0 1 1 0 1 3 1
      ∷ shape 1 1 2 0 2 2 0 1 0 0
      ∷ shape 1 1 2 0 2 2 0 2 1 0
      ∷ shape 1 1 4 0 3 3 0 2 0 0
      ∷ shape 1 1 1 0 1 1 0 3 0 0
      ∷ shape 1 1 2 1 2 1 0 4 0 0
      ∷ shape 1 1 2 2 2 1 9 1 0 0
      ∷ [])
      (used (entry a 14 0 ∷ entry b 7 2 ∷ [])
      ∷ used (entry a 14 0 ∷ entry c 7 2 ∷ entry s 7 3 ∷ [])
      ∷ used (entry b 7 0 ∷ [])
      ∷ used (entry a 8 0 ∷ entry b 7 2 ∷ [])
      ∷ [])
      (edge 1 0 a 14 2
      ∷ edge 2 0 b 7 3
      ∷ edge 2 0 c 7 4
      ∷ edge 4 0 s 7 5
      ∷ edge 1 0 b 7 6
      ∷ edge 2 0 a 8 7
      ∷ edge 2 1 9 0 8
      ∷ []),
)

-- Uniques: each new one takes a new table; the old one keeps its place, its holds and its own table without
-- entries. It keeps its prototype when the prototype changes (2 keeps 9), and has prototype 0
-- after a removal (3) and a change of width (4).
abbrev uniques : Tale
uniques = (
  blank (limits 5 5 2 1),
  new_unique ⇒ gives 1 0
      ∷ change_prototype 1 9 ⇒ gives 2 0
      ∷ insert_key 2 a 14 ⇒ gives 2 0
      ∷ insert_key 2 b 7 ⇒ gives 2 0
      ∷ change_prototype 2 8 ⇒ gives 3 0
      ∷ ask 3 (lookup b) ⇒ at 2 7
      ∷ remove_key 3 a ⇒ gives 4 0
      ∷ change_key 4 b 5 ⇒ gives 4 0
      ∷ ask 4 (lookup b) ⇒ at 0 5
      ∷ change_key 4 b 14 ⇒ Yes (Given 5 Insert 0)
      ∷ [],
  image
      2
      (shape 2 1 0 0 0 0 0 1 0 0
      ∷ shape 2 3 0 0 0 0 9 2 0 0
      ∷ shape 2 1 0 0 0 0 0 3 0 0
      ∷ shape 2 2 0 0 0 0 0 4 0 0
      ∷ shape 2 1 0 0 0 1 8 5 0 0
      ∷ [])
      (used [] ∷ used [] ∷ used [] ∷ used [] ∷ used (entry b 14 0 ∷ []) ∷ [])
      (no_edge ∷ []),
)

abbrev pub tales : List Tale
tales = (sweep_one ∷ sweep_all ∷ met_again ∷ []) ++ counting ++ (tables ∷ uniques ∷ [])

-- ## Transcripts

-- a, b, c at 7, then b to 5: the configured shape yields its last key, c, so that b's change is forgotten
-- when a goes.
abbrev forgotten : List Line
forgotten =
    new_root ⇒ gives 1 0
    ∷ insert_key 1 a 7 ⇒ gives 2 1
    ∷ insert_key 2 b 7 ⇒ gives 3 2
    ∷ insert_key 3 c 7 ⇒ gives 4 3
    ∷ change_key 4 b 5 ⇒ gives 5 4
    ∷ ask 5 (lookup b) ⇒ at 1 5
    ∷ remove_key 5 a ⇒ gives 7 2
    ∷ ask 7 (lookup b) ⇒ at 0 7
    ∷ ask 7 (lookup c) ⇒ at 1 7
    ∷ []

-- The key itself is skipped where it is configured: b to 5, then b goes, and the shape is the one before b.
abbrev skipped : List Line
skipped =
    new_root ⇒ gives 1 0
    ∷ insert_key 1 a 7 ⇒ gives 2 1
    ∷ insert_key 2 b 7 ⇒ gives 3 2
    ∷ change_key 3 b 5 ⇒ gives 4 3
    ∷ remove_key 4 b ⇒ gives 2 1
    ∷ []

-- A key's first yield counts: b to 5 and then to 4 while it is the last, so that 4 is kept.
abbrev first_yield : List Line
first_yield =
    new_root ⇒ gives 1 0
    ∷ insert_key 1 a 7 ⇒ gives 2 1
    ∷ insert_key 2 b 7 ⇒ gives 3 2
    ∷ change_key 3 b 5 ⇒ gives 4 3
    ∷ change_key 4 b 4 ⇒ gives 5 4
    ∷ remove_key 5 a ⇒ gives 6 1
    ∷ ask 6 (lookup b) ⇒ at 0 4
    ∷ []

-- A change of width: base, the newest prototype (8, not 9), the key with new attributes, the yielded keys.
-- A prototype from before the key is the base's own.
abbrev widened : List Line
widened =
    new_root ⇒ gives 1 0
    ∷ change_prototype 1 6 ⇒ gives 2 1
    ∷ insert_key 2 a 7 ⇒ gives 3 2
    ∷ change_prototype 3 9 ⇒ gives 4 3
    ∷ insert_key 4 b 7 ⇒ gives 5 4
    ∷ change_key 3 a 14 ⇒ Yes (Given 6 Insert 2)
    ∷ ask 6 prototype_of ⇒ Yes (Number 6)
    ∷ change_prototype 5 8 ⇒ gives 7 5
    ∷ change_key 7 a 14 ⇒ Yes (Given 10 Insert 4)
    ∷ ask 10 prototype_of ⇒ Yes (Number 8)
    ∷ ask 10 (lookup a) ⇒ at 0 14
    ∷ ask 10 (lookup b) ⇒ at 2 7
    ∷ []

-- A removal goes from the base by the prototype first: to the shape that prototype 9 and then b had made.
abbrev prototype_first : List Line
prototype_first =
    new_root ⇒ gives 1 0
    ∷ change_prototype 1 9 ⇒ gives 2 1
    ∷ insert_key 2 b 7 ⇒ gives 3 2
    ∷ insert_key 1 a 7 ⇒ gives 4 1
    ∷ insert_key 4 b 7 ⇒ gives 5 2
    ∷ change_prototype 5 9 ⇒ gives 6 3
    ∷ remove_key 6 a ⇒ gives 3 2
    ∷ []

-- "freed places are taken again", the lowest first.
abbrev again : List Line
again =
    new_root ⇒ gives 1 0
    ∷ new_root ⇒ gives 2 0
    ∷ new_root ⇒ gives 3 0
    ∷ release 2 ⇒ Yes Done
    ∷ release 1 ⇒ Yes Done
    ∷ sweep ⇒ Yes (Freed 2 2)
    ∷ new_unique ⇒ gives 1 0
    ∷ new_root ⇒ gives 2 0
    ∷ new_root ⇒ gives 4 0
    ∷ []

-- An edge is not revived when its child's place is used again, here by another root's child with the same key.
abbrev unrevived : List Line
unrevived =
    new_root ⇒ gives 1 0
    ∷ new_root ⇒ gives 2 0
    ∷ insert_key 1 a 7 ⇒ gives 3 1
    ∷ release 3 ⇒ Yes Done
    ∷ sweep ⇒ Yes (Freed 1 0)
    ∷ insert_key 2 a 7 ⇒ gives 3 1
    ∷ insert_key 1 a 7 ⇒ gives 4 1
    ∷ previous 3 ⇒ gives 2 0
    ∷ previous 4 ⇒ gives 1 0
    ∷ []

-- A prototype step is made though the prototype is unchanged, once from each shape.
abbrev same_prototype : List Line
same_prototype =
    new_root ⇒ gives 1 0
    ∷ change_prototype 1 0 ⇒ gives 2 1
    ∷ change_prototype 2 0 ⇒ gives 3 2
    ∷ change_prototype 1 0 ⇒ gives 2 1
    ∷ []

-- A change to the same attributes is a configure step, once from each shape.
abbrev same_attributes : List Line
same_attributes =
    new_root ⇒ gives 1 0
    ∷ insert_key 1 a 7 ⇒ gives 2 1
    ∷ change_key 2 a 7 ⇒ gives 3 2
    ∷ change_key 3 a 7 ⇒ gives 4 3
    ∷ change_key 2 a 7 ⇒ gives 3 2
    ∷ []

-- "Holds of a place equal grants less releases"; previous grants one, but none at a root.
abbrev holds : List Line
holds =
    new_root ⇒ gives 1 0
    ∷ previous 1 ⇒ gives 0 0
    ∷ insert_key 1 a 7 ⇒ gives 2 1
    ∷ hold 2 ⇒ gives 2 1
    ∷ release 1 ⇒ Yes Done
    ∷ hold 1 ⇒ No NoShape
    ∷ previous 2 ⇒ gives 1 0
    ∷ hold 1 ⇒ gives 1 0
    ∷ release 2 ⇒ Yes Done
    ∷ release 2 ⇒ Yes Done
    ∷ release 2 ⇒ No NoShape
    ∷ []

-- A unique: previous is 0, each insert grants a hold, and unheld it is swept with its table.
abbrev unique_holds : List Line
unique_holds =
    new_unique ⇒ gives 1 0
    ∷ ask 1 is_shared ⇒ Yes (Number 0)
    ∷ previous 1 ⇒ gives 0 0
    ∷ insert_key 1 a 7 ⇒ gives 1 0
    ∷ release 1 ⇒ Yes Done
    ∷ sweep ⇒ Yes (Freed 0 0)
    ∷ release 1 ⇒ Yes Done
    ∷ release 1 ⇒ No NoShape
    ∷ sweep ⇒ Yes (Freed 1 1)
    ∷ new_root ⇒ gives 1 0
    ∷ ask 1 properties_of ⇒ Yes (Number 0)
    ∷ []

abbrev pub transcripts : List (List Line)
transcripts =
    forgotten
    ∷ skipped
    ∷ first_yield
    ∷ widened
    ∷ prototype_first
    ∷ again
    ∷ unrevived
    ∷ same_prototype
    ∷ same_attributes
    ∷ holds
    ∷ unique_holds
    ∷ []

-- ## The theorem

pub worked_right :
    (map told tales ≡ map foretold tales)
    × (map (answers (blank small)) transcripts ≡ map expected transcripts)
unfolding told foretold answers
worked_right = (refl, refl)
