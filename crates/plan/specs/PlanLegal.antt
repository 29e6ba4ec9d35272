-- Steps that are legal in their turn over entries are legal in their turn in every sound model.
-- Assumes nothing.
use Rattle.std.specs.Prelude.{List, [], ◌∷◌, ℕ, ◌+◌, ◌≤◌, length}
use Rattle.std.proofs.Common.{arith}
use Rattle.store.specs.Model.{Model}
use Rattle.rules.specs.Steps.{Step}
use Rattle.theorems.specs.Facts.{Sound}
use Rattle.theorems.specs.Made.{SharedAt, entries_at, transitions_at}
use Rattle.theorems.specs.InTurn.{LegalInTurn}
use Rattle.theorems.specs.Sequence.{good_label_lem, step_led}
use Rattle.plan.specs.PlanRight.{LegalSteps}

pub legal_steps : (ts : List Step) (m : Model) → Sound m → (n : ℕ) → SharedAt m n
    → LegalInTurn ts (entries_at m n) → transitions_at m n + length ts ≤ 1024 → LegalSteps ts m n
legal_steps [] m sound n h legal few = tt
legal_steps (t ∷ ts) m sound n h (good, may, rest) few = (
  record {
    is_shared = h;
    below = omega arith;
    may = may;
    label = good_label_lem n t (entries_at m n) good may;
  },
  λ y e.
      let led = step_led m sound n h t (omega arith) (good, may, tt) y e in
      let count = led.its_count in
      legal_steps ts y.0 led.keeps.is_sound y.1 led.is_shared
      (rw led.its_entries rest) (omega arith),
)
