-- The step runner's image, and how long its graph may be.
-- Assumes nothing.
use Rattle.std.specs.Prelude.{List, ◌≡◌, ℕ, ◌≤◌, length}
use Rattle.std.proofs.Common.{arith}
use Rattle.std.proofs.lemmas.List.{length-replicate}
use Rattle.store.specs.Model.{no_shape, no_edge}
use Rattle.store.specs.Layout.{parse, formatted}
use Rattle.store.specs.Image.{Sizes}
use Rattle.rules.proofs.Formatted.{formatted-read}
use Rattle.rules.specs.Runner.{runner_limits}

-- "S 256, T 32, K 32, E 256"
pub record Small (image : List ℕ) : Type 0 where
  pub keys : (parse image).K ≤ 32
  pub shapes : length (parse image).shapes ≤ 256
  pub edges : length (parse image).edges ≤ 256

pub small-blank : {image : List ℕ} → image ≡ formatted runner_limits → Small image
small-blank e =
    let l = runner_limits in
    let read = formatted-read l in
    rw e
    record {
      keys = rw read (omega arith);
      shapes = rw read (omega (arith, length-replicate 256 no_shape));
      edges = rw read (omega (arith, length-replicate 256 no_edge));
    }

pub small_still : {before after : List ℕ} → Sizes (parse before) (parse after) → Small before → Small after
small_still same s =
    record {
      keys = rw same.keys s.keys;
      shapes = rw same.shapes s.shapes;
      edges = rw same.edges s.edges;
    }
