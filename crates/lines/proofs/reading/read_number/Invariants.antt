-- `lines::reading::read_number` meets its contract. Assumes nothing.
use Rattle.lines.specs.Reading.{Digits}
use Rattle.lines.proofs.reading.read_number.Given as goal

abbrev pub invariant-loop-end : goal.invariant-loop-end
invariant-loop-end l = Digits l.line l.start l.value l.end
