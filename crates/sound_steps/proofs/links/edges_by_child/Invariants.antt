-- `sound_steps::links::edges_by_child` meets its contract. Assumes nothing.
use Rattle.sound_steps.specs.Links.{Marking}
use Rattle.store.specs.Layout.{parse}
use Rattle.sound_steps.proofs.links.edges_by_child.Given as goal

abbrev pub invariant-loop-done : goal.invariant-loop-done
invariant-loop-done l = Marking (parse l.image) l.done l.marks
