-- `distinct::pairs::pairs_differ` meets its contract. Assumes nothing.
use Rattle.store.specs.Scans.{Scanning}
use Rattle.rules.specs.Sound.{distinct}
use Rattle.distinct.specs.Pairs.{distinct_scan}
use Rattle.distinct.proofs.pairs.pairs_differ.Given as goal

abbrev pub invariant-loop-done : goal.invariant-loop-done
invariant-loop-done l = Scanning (distinct_scan l.codes) l.done (distinct l.codes)
