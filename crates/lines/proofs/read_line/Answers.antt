-- `lines::read_line` meets its contract. Assumes nothing.
use mathlib.Core.Path.{refl, sym, ◌∙◌}
use native.Mathlib.Omega.{arith}
use Rattle.std.proofs.Common.{eqb-true}
use Rattle.std.proofs.lemmas.Bool.{eqb-false}
use Rattle.lines.specs.Lines.{line_read, none_read, no_line, too_long}
use Rattle.lines.proofs.read_line.Goals.{then-is_empty-via-then-is_empty}
use Rattle.lines.proofs.read_line.Goals.{then-is_empty-via-else-is_empty+then-line-gt-LONGEST}
use Rattle.lines.proofs.read_line.Goals as goal

pub returns-then-is_empty : goal.returns-then-is_empty
returns-then-is_empty c =
    let line = c.args.line.now in
    elim c.then-is_empty.branch [
      | then-is_empty-via-then-is_empty w ↦ no_line line (eqb-true _ 0 (sym c.is_empty.ensures ∙ w.if-is_empty.true))
      | then-is_empty-via-else-is_empty+then-line-gt-LONGEST w ↦ too_long line w.if-line-gt-LONGEST.true
    ]

pub returns-in-Some : goal.returns-in-Some
returns-in-Some c =
    let some_byte = eqb-false _ 0 (sym c.is_empty.ensures ∙ c.if-is_empty.false) in
    line_read c.args.line.now c.command_of.result (omega arith)
    c.if-line-gt-LONGEST.false refl c.in-Some.ensures c.command_of.ensures

pub returns-in-None : goal.returns-in-None
returns-in-None c =
    let some_byte = eqb-false _ 0 (sym c.is_empty.ensures ∙ c.if-is_empty.false) in
    none_read c.args.line.now (omega arith) c.if-line-gt-LONGEST.false c.in-None.ensures
