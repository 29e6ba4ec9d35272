-- Document 01, "Trails and steps": "A shared shape's trail is the list of steps from its root".
-- Assumes nothing.
use Rattle.std.specs.Prelude.{List, [], ◌∷◌, ◌++◌, ℕ, zero, suc}
use Rattle.store.specs.Lists.{last}
use Rattle.store.specs.Model.{Model, no_edge, shape_at}
use Rattle.rules.specs.Steps.{Step, chain}
use Rattle.rules.specs.Sound.{edges_to, step_of}

-- The step that made a shape: the one edge to it, read with the shape's step kind.
abbrev pub made_by : Model → ℕ → Step
made_by m n = step_of (shape_at m n).step (last (edges_to m n) no_edge)

abbrev pub trail_of : (transitions : ℕ) → Model → ℕ → List Step
trail_of zero m n = []
trail_of (suc count) m n = trail_of count m (shape_at m n).previous ++ made_by m n ∷ []

-- "its transition count is the trail's length"
unfoldable pub trail : Model → ℕ → List Step
trail m n = trail_of (shape_at m n).transitions m n

-- The shape at the end of the way back.
unfoldable pub root : Model → ℕ → ℕ
root m n = last (chain m n) n
