-- `sweep::walks::walk` meets its contract. Assumes nothing.
use Rattle.store.specs.Layout.{parse}
use Rattle.sweep.specs.Marks.{unmarked}
use Rattle.sweep.specs.Walks.{Walk}
use Rattle.sweep.proofs.walks.walk.Given as goal

abbrev pub invariant-loop-n : goal.invariant-loop-n
invariant-loop-n l = Walk (parse l.image) l.initial.marks l.marks l.from l.n

abbrev pub decreases-loop-n : goal.decreases-loop-n
decreases-loop-n l = unmarked l.marks
