-- `sound_steps::steps::same_first` meets its contract. Assumes nothing.
use Rattle.sound_steps.specs.StepLaws.{Comparing}
use Rattle.store.specs.Layout.{parse}
use Rattle.sound_steps.proofs.steps.same_first.Given as goal

abbrev pub invariant-loop-at : goal.invariant-loop-at
invariant-loop-at l = Comparing (parse l.image) l.p l.s l.edge l.configures l.at
