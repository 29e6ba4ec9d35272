-- `forward_transition::get` meets its contract.
-- Assumes nothing.
use Rattle.store.specs.Model.{no_edge}
use Rattle.store.specs.Layout.{parse}
use Rattle.rules.specs.Steps.{alike}
use Rattle.store.specs.Lists.{first}
use Rattle.store.specs.Scans.{Scanning, first_scan}
use Rattle.forward_transition.proofs.get.Given as goal

abbrev pub invariant-loop-passed : goal.invariant-loop-passed
invariant-loop-passed l =
    Scanning (first_scan no_edge (alike l.wanted) (parse l.image).edges) l.passed
    (first (alike l.wanted) (parse l.image).edges)
