-- `rollback::rollback_before` meets its contract. Assumes nothing.
use Rattle.store.specs.Layout.{parse}
use Rattle.rollback.specs.WalkBack.{Walked}
use Rattle.rollback.proofs.rollback_before.Given as goal

abbrev pub invariant-loop-newest : goal.invariant-loop-newest
invariant-loop-newest l = Walked (parse l.image) l.n l.key l.initial.steps l.steps l.s l.start l.newest

abbrev pub decreases-loop-newest : goal.decreases-loop-newest
decreases-loop-newest l = l.s.transitions
