-- `sound_steps::children_follow` meets its contract. Assumes nothing.
use Rattle.store.specs.Model.{no_shape}
use Rattle.store.specs.Layout.{parse}
use Rattle.store.specs.Scans.{Scanning, places_scan}
use Rattle.sound_steps.specs.Children.{follows}
use Rattle.sound_steps.proofs.children_follow.Given as goal

abbrev pub invariant-loop-done : goal.invariant-loop-done
invariant-loop-done l =
    let every-child = places_scan no_shape (follows (parse l.image)) (parse l.image).shapes in
    Scanning every-child l.done (every-child.from 0)
