-- The step runner as a whole.
-- Assumes nothing.
use Rattle.std.specs.Prelude.{List, [], ◌++◌, ◌≡◌, ℕ, ◌≤◌, length, take}
use Rattle.store.specs.Model.{blank}
use Rattle.store.specs.Layout.{words}
use Rattle.rules.specs.Runner.{runner_limits, runner}
use Rattle.lines.specs.Writing.{Written}
use Rattle.stepping.specs.Answering.{Starts, starts_read}
use Rattle.stepping.specs.Input.{state, blocks_said, last_said, runner_leaves, joined, text_of}
use Rattle.replaying.specs.Replayed.{Replayed, Stopped, replayed-left, replayed_answered, front_written}

-- There are blocks of input for whose bytes document 01's runner, on a formatted image, leaves this image; and what it
-- answers to them is what was said to the blocks and then the first bytes of `out`.
pub record Whole (image out : List ℕ) (last : ℕ) : Type 0 where
  pub blocks : List (List ℕ)
  pub left : image ≡ words (runner_leaves (blank runner_limits) (joined blocks))
  pub answered : blocks_said (state (blank runner_limits) []) blocks ++ take last out
      ≡ text_of (runner (blank runner_limits) (joined blocks))
  pub inside : last ≤ length out

-- Where a read or a write fails, too, the image is one that document 01's runner leaves for some blocks.
abbrev pub Left : (image : List ℕ) → Type 0
Left image = (blocks : List (List ℕ)) × (image ≡ words (runner_leaves (blank runner_limits) (joined blocks)))

pub stopped_left : {image₀ image out₀ out : List ℕ} → Starts image₀ → Stopped image₀ image out₀ out → Left image
stopped_left s stopped =
    let read = starts_read s in
    let r = stopped.1 in
    (r.blocks, rw read at (replayed-left r))

pub whole_answered : {image₀ image out₀ out₁ out : List ℕ} {begun last : ℕ} → Starts image₀
    → Replayed image₀ image out₀ out₁ begun → Written out₁ out 0 (last_said begun) last → last ≤ length out₁
    → last ≤ length out → Whole image out last
whole_answered {image₀} s r w room inside =
    let read = starts_read s in
    record {
      blocks = r.blocks;
      left = rw read at (replayed-left r);
      answered = rw (front_written w room) (rw read at (replayed_answered r));
      inside = inside;
    }
