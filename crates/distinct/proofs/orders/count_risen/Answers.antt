-- `distinct::orders::count_risen` meets its contract. Assumes nothing.
use mathlib.Core.Bool.{not}
use mathlib.Core.Path.{refl, ap}
use Rattle.store.specs.Scans.{went_on}
use Rattle.distinct.specs.Rising.{risen-from}
use Rattle.distinct.proofs.orders.count_risen.Goals as goal

pub loop-k-init : goal.loop-k-init
loop-k-init c = risen-from _ _

pub loop-k-preserved : goal.loop-k-preserved
loop-k-preserved c =
    let is-in-turn = c.is_in_turn in
    let if1 = c.if-not-is_in_turn in
    went_on c.loop-k.invariant refl c.loop-k-test.true (ap not is-in-turn.ensures) (ap not if1.false)
