-- What each way out of a test of one record answers.
-- Assumes nothing.
use Rattle.std.specs.Prelude.{◌≡◌, Bool, true, false, not, ℕ, ◌≤◌, length}
use Rattle.std.proofs.Common.{◌∙◌, ne_eqb}
use Rattle.std.proofs.Math.Bool.{and_assoc, and-true}
use Rattle.store.specs.Model.{Model, free_table, shape_at, table_at}
use Rattle.store.specs.declared.Shape.{Shape}
use Rattle.rules.specs.Shapes.{table_of}
use Rattle.rules.specs.Sound.{in_range}
use Rattle.rules.specs.InUse.{shape-ranges}
use Rattle.sound_shapes.specs.Tests.{own_fields, good_shape}

-- ## Shapes

pub no_table_zero : (m : Model) (t : ℕ) → t ≡ 0 → false ≡ not (free_table (table_at m t))
unfolding table_at
no_table_zero m t e = rw e

module _ (m : Model) (n : ℕ) {s : Shape} (read : s ≡ shape_at m n) where
  pub table_in_range : in_range m ≡ true → (s.state ≡ 0 → ⊥) → s.table ≤ length m.tables
  table_in_range e in_use =
      rw read (shape-ranges m e n (rw (← read) (ne_eqb s.state 0 in_use))).table

  module _
      {table : Bool}
      (in_use : s.state ≡ 0 → ⊥)
      (its : table ≡ not (free_table (table_at m s.table)))
    where
      pub fields_answer : table ≡ true → {long : ℕ} {r : Bool} → long ≡ length (table_of m s)
          → r ≡ own_fields long s → r ≡ good_shape m (shape_at m n)
      fields_answer e long answer =
          rw (← read, ne_eqb s.state 0 in_use, ← its, e) (answer ∙ rw long (simp (and_assoc, and-true)))
