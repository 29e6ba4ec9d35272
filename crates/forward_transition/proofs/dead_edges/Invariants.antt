-- `forward_transition::dead_edges` meets its contract. Assumes nothing.
use Rattle.store.specs.Layout.{parse}
use Rattle.store.specs.Scans.{Counting}
use Rattle.rules.specs.Steps.{dead}
use Rattle.forward_transition.proofs.dead_edges.Given as goal

abbrev pub invariant-loop-seen : goal.invariant-loop-seen
invariant-loop-seen l = Counting (dead l.parent l.kind) (parse l.image).edges l.seen l.found
