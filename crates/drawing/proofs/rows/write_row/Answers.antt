-- `drawing::rows::write_row` meets its contract. Assumes nothing.
use mathlib.Core.Path.{sym, ◌∙◌}
use native.Mathlib.Omega.{arith}
use Rattle.lines.specs.Pages.{adds_then, adds_within}
use Rattle.drawing.specs.Graph.{row_text}
use Rattle.drawing.proofs.rows.write_row.Goals as goal

pub returns-then-not-is_accessor_descriptor : goal.returns-then-not-is_accessor_descriptor
unfolding row_text
returns-then-not-is_accessor_descriptor c =
    rw (sym c.is_accessor_descriptor.ensures ∙ c.if-not-is_accessor_descriptor.true)
    (adds_within 150 (omega arith) c.write_key_row.ensures)

pub returns : goal.returns
unfolding row_text
returns c =
    let second = rw c.after-second.ensures at c.write_numbered.ensures in
    let all = adds_then (adds_then c.write_key_row-2.ensures second) c.write_word.ensures in
    rw (sym c.is_accessor_descriptor.ensures ∙ c.if-not-is_accessor_descriptor.false)
    (adds_within 150 (omega arith) all)
