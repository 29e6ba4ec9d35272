-- Transcripts, in which the examples are written: each line is a call and its reply.
-- Assumes nothing.
use Rattle.std.specs.Prelude.{List, [], ◌∷◌, map, ℕ, ◌+◌, ◌*◌, ◌^◌}
use Rattle.slot.specs.Attributes.{present, accessor, width}
use Rattle.store.specs.Layout.{read_shape, read_edge, flat}
use Rattle.store.specs.declared.Limits.{Limits}
use Rattle.store.specs.declared.Shape.{Shape}
use Rattle.store.specs.declared.Edge.{Edge}
use Rattle.store.specs.Model.{Table, Model, shape_at, table_at, put_shape, put_table, put_edge}
use Rattle.rules.specs.declared.ChangeTransitionAction.TheVariants.{Nothing}
use Rattle.rules.specs.Steps.{pruned, counted, child_table, grow, make, step, steps, chain, rollback}
use Rattle.rules.specs.Steps.{remove_shared, change_shared, fresh, limited}
use Rattle.rules.specs.Unique.{emptied, insert_unique, remove_unique, change_unique, prototype_unique}
use Rattle.rules.specs.Unique.{inserted, changed, removed, rebased}
use Rattle.rules.specs.Sound.{in_range, table_in_use, free_zero, tables_good, tables_used, counts_fit}
use Rattle.rules.specs.Sound.{roots_zero, children_linked, children_stepped, edges_differ, edges_good}
use Rattle.rules.specs.Sound.{transitions_limited, holds_limited, uniques_zero, sound_model}
use Rattle.rules.specs.Sweep.{swept_to, reached, swept}
use Rattle.rules.specs.Calls.{Call, Given, Found, NotFound, Reply, Yes, perform, call}

abbrev pub Line : Type 0
Line = Call × Reply

infix 70 ◌⇒◌
abbrev pub ◌⇒◌ : Call → Reply → Line
c ⇒ r = (c, r)

-- The replies to a transcript's calls, and the replies that it has.
unfoldable pub answers : Model → List Line → List Reply
unfolding shape_at table_at put_shape put_table put_edge flat present accessor width pruned counted child_table grow make step
    steps chain rollback remove_shared change_shared fresh limited emptied insert_unique remove_unique change_unique
    prototype_unique inserted changed removed rebased in_range table_in_use free_zero tables_good tables_used counts_fit roots_zero
    children_linked children_stepped edges_differ edges_good transitions_limited holds_limited uniques_zero sound_model swept_to
    reached swept perform call
answers m [] = []
answers m (l ∷ ls) = let r = call m l.0 in r.1 ∷ answers r.0 ls

abbrev pub expected : List Line → List Reply
expected ls = map (λ l. l.1) ls

-- ## Replies

-- A shape and its transition count; a slot index and attributes; a list; a number.
abbrev pub gives : (shape transitions : ℕ) → Reply
gives n count = Yes (Given n Nothing count)

abbrev pub at : (slot attributes : ℕ) → Reply
at x attributes = Yes (Found x attributes)

abbrev pub nowhere : Reply
nowhere = Yes NotFound

-- ## Images

abbrev pub limits : (S T K E : ℕ) → Limits
limits S T K E = record { S = S; T = T; K = K; E = E }

abbrev pub small : Limits
small = limits 16 8 8 16

-- An image by hand: a shape's ten words, and an edge's five, in the order of "The image".
abbrev pub image : (K : ℕ) → List Shape → List Table → List Edge → Model
image K ss ts es = record { K = K; shapes = ss; tables = ts; edges = es }

abbrev pub shape :
    (state holds previous step transitions properties prototype table counter counter' : ℕ) → Shape
shape st h pr k n ps p t x y = read_shape (st ∷ h ∷ pr ∷ k ∷ n ∷ ps ∷ p ∷ t ∷ x ∷ y ∷ [])

abbrev pub edge : (parent kind label attributes child : ℕ) → Edge
edge p kind l x ch = read_edge (p ∷ kind ∷ l ∷ x ∷ ch ∷ [])

-- ## Keys

-- Strings a, b, c, a symbol s and an index key.
abbrev pub a : ℕ
a = 1

abbrev pub b : ℕ
b = 2

abbrev pub c : ℕ
c = 3

abbrev pub s : ℕ
s = 2 ^ 30 + 1

abbrev pub index5 : ℕ
index5 = 2 * 2 ^ 30 + 5
