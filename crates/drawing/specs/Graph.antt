-- A model's shapes as a graph in the language of Graphviz: one definition for each part of the text.
-- Assumes nothing.
use Rattle.std.specs.Prelude.{Bool, List, [], ◌∷◌, ◌++◌, ◌≡◌, refl, ℕ, suc, ◌+◌, ◌%◌, ◌^◌, eqb}
use Prim.Native.String.{String}
use Rattle.std.specs.Prelude.{if◌then◌else◌}
use Rattle.slot.specs.Attributes.{present, accessor}
use Rattle.store.specs.Model.{Model, free_shape, free_edge, shape_at}
use Rattle.store.specs.declared.Shape.{Shape}
use Rattle.store.specs.declared.Entry.{Entry}
use Rattle.store.specs.declared.Edge.{Edge}
use Rattle.rules.specs.Numbers.{kind_of}
use Rattle.rules.specs.Shapes.{unique, has, entries}
use Rattle.rules.specs.Steps.{prototype_edge_kind}
use Rattle.rules.specs.Text.{bytes}
use Rattle.lines.specs.Decimal.{decimal_digits}

-- A word, and a number after it.
abbrev pub numbered : String → ℕ → List ℕ
numbered word n = bytes word ++ decimal_digits n

-- The texts of records one after the other, the first of them with the number n.
module _ {A : Type 0} where
  abbrev pub texts : (ℕ → A → List ℕ) → ℕ → List A → List ℕ
  texts text n [] = []
  texts text n (x ∷ xs) = text n x ++ texts text (suc n) xs

-- ## Keys and attributes

-- "kind × 2^30 + id. Kind 0 string, 1 symbol, 2 index": `1`, `symbol 3`, `index 5`.
unfoldable pub key_text : ℕ → List ℕ
key_text key =
    let id = key % 2 ^ 30 in
    if eqb (kind_of key) 0
    then decimal_digits id
    else (if eqb (kind_of key) 1 then numbered "symbol " id else numbered "index " id)

symbol : key_text 1073741827 ≡ bytes "symbol 3"
unfolding key_text decimal_digits
symbol = refl

-- An attribute's letter, `-` if it is not present.
abbrev pub letter_if : (is_present : Bool) (letter : ℕ) → ℕ
letter_if is_present letter = if is_present then letter else 45

-- Writable, enumerable, configurable, get, set: `wec--`, `-ecg-`.
unfoldable pub attributes_text : ℕ → List ℕ
attributes_text a =
    letter_if (present 1 a) 119
    ∷ letter_if (present 2 a) 101
    ∷ letter_if (present 4 a) 99
    ∷ letter_if (present 8 a) 103
    ∷ letter_if (present 16 a) 115
    ∷ []

getter : attributes_text 14 ≡ bytes "-ecg-"
unfolding attributes_text present
getter = refl

-- ## The rows of a key

-- A storage place's index, the key and its attributes, and what is stored there.
unfoldable pub key_row : (cell what : List ℕ) → Entry → List ℕ
key_row cell what e =
    numbered "<tr><td>" e.slot.0
    ++ cell ++ key_text e.key
    ++ cell ++ attributes_text e.attributes
    ++ what

-- "Width is 2 if GET or SET or both are present, else 1": an accessor fills two storage places.
unfoldable pub row_text : Entry → List ℕ
row_text e =
    if accessor e.attributes
    then
    (key_row (bytes "</td><td rowspan=\"2\">") (bytes "</td><td>get</td></tr>\n") e
    ++ numbered "<tr><td>" (e.slot.0 + 1)
    ++ bytes "</td><td>set</td></tr>\n")
    else key_row (bytes "</td><td>") (bytes "</td><td>value</td></tr>\n") e

-- ## A shape

unfoldable pub state_text : Shape → List ℕ
state_text s = if unique s then bytes "</b>, unique" else bytes "</b>, shared"

unfoldable pub title_text : ℕ → Shape → List ℕ
title_text n s =
    numbered "s" n
    ++ bytes " [label=<<table border=\"0\" cellborder=\"1\" cellspacing=\"0\" cellpadding=\"4\">\n"
    ++ numbered "<tr><td colspan=\"4\"><b>shape " n
    ++ state_text s

unfoldable pub counts_text : Shape → List ℕ
counts_text s =
    numbered "<br/>holds " s.holds
    ++ numbered ", prototype " s.prototype
    ++ numbered "<br/>transitions " s.transitions
    ++ bytes "</td></tr>\n"

unfoldable pub rows_text : List Entry → List ℕ
rows_text es = texts (λ i e. row_text e) 0 es

-- Unique shapes stand apart, under a name of their own.
unfoldable pub apart_text : ℕ → Shape → List ℕ
apart_text n s =
    if unique s then numbered "subgraph cluster_unique { label=\"unique shapes\" s" n ++ bytes " }\n" else []

unfoldable pub shape_text : Model → ℕ → Shape → List ℕ
shape_text m n s = title_text n s ++ counts_text s ++ rows_text (entries m s) ++ bytes "</table>>]\n" ++ apart_text n s

unfoldable pub node_text : Model → ℕ → Shape → List ℕ
node_text m n s = if free_shape s then [] else shape_text m n s

-- ## An edge

-- A property step of a held key is a configure step, of any other an insert step.
unfoldable pub step_name : Model → Edge → List ℕ
step_name m e =
    if has e.label (entries m (shape_at m e.parent)) then bytes "configure " else bytes "insert "

unfoldable pub property_step_text : Model → Edge → List ℕ
property_step_text m e = step_name m e ++ key_text e.label ++ bytes " " ++ attributes_text e.attributes

unfoldable pub step_text : Model → Edge → List ℕ
step_text m e = if eqb e.kind prototype_edge_kind then numbered "prototype " e.label else property_step_text m e

-- A dead edge is dashed, and leads to a point of its own.
unfoldable pub ends : ℕ → Edge → List ℕ
ends n e =
    if eqb e.child 0
    then
    (numbered "e" n ++ numbered " [shape=point]\ns" e.parent ++ numbered " -> e" n
    ++ bytes "[style=dashed label=\" ")
    else (numbered "s" e.parent ++ numbered " -> s" e.child ++ bytes "[label=\" ")

unfoldable pub edge_text : Model → ℕ → Edge → List ℕ
edge_text m n e = if free_edge e then [] else ends n e ++ step_text m e ++ bytes "\"]\n"

-- ## The graph

-- How all is drawn, and what stands under the picture.
unfoldable pub opening : List ℕ
opening =
    bytes "digraph shapes {\nnodesep=0.5\nranksep=0.25\nfontname=\"Helvetica,Arial,sans-serif\"\n"
    ++ bytes "node [shape=plain fontname=\"Helvetica,Arial,sans-serif\"]\n"
    ++ bytes "edge [fontname=\"Helvetica,Arial,sans-serif\"]\n"
    ++ bytes "label=\"\\lA row is a storage place: slot index, key, attributes, what is stored.\\l"
    ++ bytes "w writable, e enumerable, c configurable, g get, s set. A dashed edge is dead.\\l\"\n"

unfoldable pub graph_text : Model → List ℕ
graph_text m =
    opening
    ++ texts (node_text m) 1 m.shapes
    ++ texts (edge_text m) 1 m.edges
    ++ bytes "}\n"
