-- Document 01, "Holds, sweeps, questions": what a sweep keeps and frees, and the questions' answers.
-- Assumes nothing.
use Rattle.std.specs.Prelude.{Bool, not, List, [], ◌++◌, map, ℕ, eqb, length}
use Rattle.std.proofs.Math.Option.{Option}
use Rattle.std.specs.Prelude.{if◌then◌else◌}
use Rattle.store.specs.Lists.{numbered, keep, any, first}
use Rattle.store.specs.Model.{Table, free, Model, no_shape, no_edge}
use Rattle.store.specs.Layout.{flat}
use Rattle.store.specs.declared.Shape.{Shape}
use Rattle.store.specs.declared.Entry.{Entry}
use Rattle.store.specs.declared.Edge.{Edge}
use Rattle.rules.specs.Numbers.{kind_of}
use Rattle.rules.specs.Shapes.{is_key}
use Rattle.rules.specs.Steps.{chain}
use Rattle.rules.specs.Sound.{uses}

-- ## Sweep, over any set of places that stay

abbrev pub sweep_shapes : (stays : ℕ → Bool) → List Shape → List Shape
sweep_shapes stays ss = map (λ p. if stays p.0 then p.1 else no_shape) (numbered 1 ss)

-- "their tables when unused": tables that no shape is left to use.
abbrev pub sweep_tables : (left : List Shape) → List Table → List Table
sweep_tables left ts = map (λ p. if any (uses p.0) left then p.1 else free) (numbered 1 ts)

abbrev pub deadened : Edge → Edge
deadened e =
    record {
      parent = e.parent;
      kind = e.kind;
      label = e.label;
      attributes = e.attributes;
      child = 0;
    }

-- "and their own edges; other edges to a freed shape become dead"
abbrev pub sweep_edge : (stays : ℕ → Bool) → Edge → Edge
sweep_edge stays e = if stays e.parent then (if stays e.child then e else deadened e) else no_edge

unfoldable pub swept_to : (stays : ℕ → Bool) → Model → Model
swept_to stays m =
    let left = sweep_shapes stays m.shapes in
    record {
      K = m.K;
      shapes = left;
      tables = sweep_tables left m.tables;
      edges = map (sweep_edge stays) m.edges;
    }

-- ## What a sweep keeps

abbrev pub held : Shape → Bool
held s = not (eqb s.holds 0)

-- Each held shape's chain.
unfoldable pub reached : Model → List ℕ
reached m = flat (map (λ p. if held p.1 then chain m p.0 else []) (numbered 1 m.shapes))

-- "A sweep frees exactly the shapes not held and not on the previous chain of a held one".
unfoldable pub swept : Model → Model
swept m = let kept = reached m in swept_to (λ n. any (eqb n) kept) m

abbrev pub in_use : {A : Type 0} → (is_free : A → Bool) → List A → ℕ
in_use is_free xs = length (keep (λ x. not (is_free x)) xs)

-- ## Questions

-- "Lookup answers the slot or Nothing."
abbrev pub found : ℕ → List Entry → Option Entry
found k es = first (is_key k) es

abbrev pub keys_of_kind : (kind : ℕ) → List ℕ → List ℕ
keys_of_kind kind ks = keep (λ k. eqb (kind_of k) kind) ks

-- "Key list: strings in order, then symbols in order, index keys dropped".
abbrev pub key_list : List Entry → List ℕ
key_list es = let ks = map (λ e. e.key) es in keys_of_kind 0 ks ++ keys_of_kind 1 ks
