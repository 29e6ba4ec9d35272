-- What is asked of the room that codes are tested in.
-- Assumes nothing.
use Rattle.std.specs.Prelude.{ℕ, ◌≤◌}

-- There is a word for each code, and a word holds any place.
pub record Roomy (codes room : ℕ) : Type 0 where
  pub each : codes ≤ room
  pub small : codes ≤ 65536
