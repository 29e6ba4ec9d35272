-- `distinct::pairs::is_last` meets its contract. Assumes nothing.
use mathlib.Core.Bool.{not}
use Prim.Native.Nat.{◌+◌}
use lib.Dec.{eqb}
use lib.ListN.{drop}
use Rattle.store.specs.Lists.{any}
use Rattle.store.specs.Scans.{Scanning, none_scan}
use Rattle.distinct.proofs.pairs.is_last.Given as goal

abbrev pub invariant-loop-done : goal.invariant-loop-done
invariant-loop-done l =
    Scanning (none_scan 0 (eqb l.code) l.codes) l.done
    (not (any (eqb l.code) (drop (l.place + 1) l.codes)))
