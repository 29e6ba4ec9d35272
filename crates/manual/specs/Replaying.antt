-- A line of the manual's lessons, and the image after it.
-- Assumes nothing.
use Rattle.std.specs.Prelude.{Bool, true, false, List, ◌≡◌, ℕ, eqb, length, get_or, take}
use Rattle.std.proofs.Common.{sym, ◌∙◌, arith, take_all}
use Rattle.std.specs.Prelude.{if◌then◌else◌}
use Rattle.store.specs.Model.{Model, blank}
use Rattle.store.specs.Layout.{words, parse}
use Rattle.store.specs.Image.{Becomes}
use Rattle.store.specs.ThereAndBack.{blank-words}
use Rattle.rules.specs.Runner.{runner_limits, line_call}
use Rattle.stepping.specs.Answering.{answer_to, Starts}

-- A line that begins with `#` names a lesson.
abbrev pub named : List ℕ → Bool
named line = eqb (get_or line 0 0) 35

-- A lesson starts with a new image; any other line is the step runner's.
abbrev pub replayed : Model → (line : List ℕ) → Model
replayed m line = if named line then blank runner_limits else (answer_to m (line_call line)).0

pub new_image : {after : List ℕ} (m : Model) (line : List ℕ) → named line ≡ true → Starts after
    → after ≡ words (replayed m line)
new_image m line is s = rw is (s.blank ∙ sym (blank-words runner_limits))

pub line_answered : {before after : List ℕ} (line : List ℕ) → named line ≡ false
    → Becomes before after (answer_to (parse before) (line_call (take (length line) line))).0
    → after ≡ words (replayed (parse before) line)
line_answered line is b = rw (is, ← (take_all (length line) line (omega arith))) b.laid
