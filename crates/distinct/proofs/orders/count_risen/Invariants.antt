-- `distinct::orders::count_risen` meets its contract. Assumes nothing.
use lib.ListN.{length}
use Rattle.store.specs.Scans.{Scanning}
use Rattle.distinct.specs.Rising.{in_turn, risen, passed_scan}
use Rattle.distinct.proofs.orders.count_risen.Given as goal

abbrev pub invariant-loop-k : goal.invariant-loop-k
invariant-loop-k l = Scanning (passed_scan (in_turn l.codes l.order) (length l.order)) l.k (risen l.codes l.order)
