-- Document 01's limit of 1,024 transitions: the steps to 1,023 and to 1,024, as one table with a single theorem, computed.
-- Assumes nothing.
use Rattle.std.specs.Prelude.{List, [], ◌∷◌, ◌++◌, map, ◌≡◌, refl, ℕ, replicate}
use Rattle.store.specs.Model.{Table, free, used, Model, no_shape, no_edge}
use Rattle.store.specs.Layout.{words}
use Rattle.store.specs.declared.Shape.{Shape}
use Rattle.store.specs.declared.Edge.{Edge}
use Rattle.rules.specs.declared.Refusal.TheVariants.{ShapesFull, TablesFull}
use Rattle.rules.specs.Shapes.{entry}
use Rattle.rules.specs.Calls.{Call, insert_key, change_key, change_prototype, Reply, No, perform, settle}
use Rattle.rules.specs.Transcript.{gives, image, shape, edge, a, b, c}
use Rattle.rules.specs.Refused.{replies}
use Rattle.rules.specs.Worked.{alone}

-- Shape 2 has prototype 9, and the given counts of transitions and properties and counters; then the shapes
-- after it, the tables, and its edge. The way back to its root is left out, so that the image is not sound, and
-- the rules are asked without that test.
abbrev later : (transitions properties x y : ℕ) → List Shape → List Table → Edge → Model
later n ps x y ss ts e =
    image
    3
    (shape 1 1 0 0 0 0 0 1 0 0 ∷ shape 1 1 1 0 n ps 9 1 x y ∷ ss)
    ts
    (e ∷ no_edge ∷ [])

-- Tables with a 7 and b 14, and then c 7; and with a 5.
abbrev ab : Table
ab = used (entry a 7 0 ∷ entry b 14 1 ∷ [])

abbrev abc : Table
abc = used (entry a 7 0 ∷ entry b 14 1 ∷ entry c 7 3 ∷ [])

abbrev a5b : Table
a5b = used (entry a 5 0 ∷ entry b 14 1 ∷ [])

-- Before the step, with the given free places; and with room for all that follows.
abbrev late : (transitions properties : ℕ) → List Shape → List Table → Model
late n ps ss ts = later n ps 0 0 ss (ab ∷ ts) no_edge

abbrev room : (transitions properties : ℕ) → Model
room n ps = late n ps (replicate 3 no_shape) (free ∷ free ∷ [])

-- An image and a call; its reply, and the image after it.
abbrev Passage : Type 0
Passage = Model × Call × Reply × Model

-- From 1,022 a shared shape.
abbrev below : Passage
below = (
  room 1022 2,
  insert_key 2 c 7,
  gives 3 1023,
  later
      1022
      2
      1
      0
      (shape 1 1 2 0 1023 3 9 1 0 0 ∷ no_shape ∷ no_shape ∷ [])
      (abc ∷ free ∷ free ∷ [])
      (edge 2 0 c 7 3),
)

-- From 1,023 a unique with transition count 0, the same keys and prototype; the shared child stays, unheld.
abbrev reached : Passage
reached = (
  room 1023 2,
  insert_key 2 c 7,
  gives 4 0,
  later
      1023
      2
      1
      0
      (shape 1 0 2 0 1024 3 9 1 0 0 ∷ shape 2 1 0 0 0 3 9 2 0 0 ∷ no_shape ∷ [])
      (abc ∷ abc ∷ free ∷ [])
      (edge 2 0 c 7 3),
)

-- Along the live edge it is another unique.
abbrev another : Passage
another = (
  reached.3,
  insert_key 2 c 7,
  gives 5 0,
  later
      1023
      2
      1
      0
      (shape 1 0 2 0 1024 3 9 1 0 0 ∷ shape 2 1 0 0 0 3 9 2 0 0 ∷ shape 2 1 0 0 0 3 9 3 0 0 ∷ [])
      (abc ∷ abc ∷ abc ∷ [])
      (edge 2 0 c 7 3),
)

-- By a configure step, which takes a table of its own; and by a prototype step, where the table has moved
-- on and only the shape's keys are copied.
abbrev by_configure : Passage
by_configure = (
  room 1023 2,
  change_key 2 a 5,
  gives 4 0,
  later
      1023
      2
      1
      0
      (shape 1 0 2 1 1024 2 9 2 0 0 ∷ shape 2 1 0 0 0 2 9 3 0 0 ∷ no_shape ∷ [])
      (ab ∷ a5b ∷ a5b ∷ [])
      (edge 2 0 a 5 3),
)

abbrev by_move : Passage
by_move = (
  room 1023 1,
  change_prototype 2 8,
  gives 4 0,
  later
      1023
      1
      0
      1
      (shape 1 0 2 2 1024 1 8 1 0 0 ∷ shape 2 1 0 0 0 1 8 2 0 0 ∷ no_shape ∷ [])
      (ab ∷ alone a ∷ free ∷ [])
      (edge 2 1 8 0 3),
)

-- "conversion to unique .. count as steps", and nothing is left of the child.
abbrev no_room : List Passage
no_room =
    -- the child takes the last shape
    (
      late 1023 2 (no_shape ∷ []) (free ∷ []),
      insert_key 2 c 7,
      No ShapesFull,
      late 1023 2 (no_shape ∷ []) (free ∷ []),
    )
    -- there is no table for the unique
    ∷ (
      late 1023 2 (no_shape ∷ no_shape ∷ []) [],
      insert_key 2 c 7,
      No TablesFull,
      late 1023 2 (no_shape ∷ no_shape ∷ []) [],
    )
    ∷ []

abbrev pub passages : List Passage
passages = (below ∷ reached ∷ another ∷ by_configure ∷ by_move ∷ []) ++ no_room

unfoldable pub passed : Passage → Reply × List ℕ
unfolding replies
passed (m, x, r, end) = let done = settle m (perform m x) in (done.1, words done.0)

unfoldable pub to_pass : Passage → Reply × List ℕ
unfolding replies
to_pass (m, x, r, end) = (r, words end)

pub limit_right : map passed passages ≡ map to_pass passages
unfolding passed to_pass
limit_right = refl
