-- `sweep::marks::mark` meets its contract. Assumes nothing.
use mathlib.Core.Path.{sym}
use lib.Seq.{set_out}
use Rattle.sweep.proofs.marks.mark.Goals as goal

pub returns-else-at-marks : goal.returns-else-at-marks
returns-else-at-marks c = sym (set_out c.args.marks.now c.args.n 1 c.if-at-marks.false)
