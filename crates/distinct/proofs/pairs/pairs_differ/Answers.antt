-- `distinct::pairs::pairs_differ` meets its contract. Assumes nothing.
use mathlib.Core.Path.{refl}
use Rattle.store.specs.Scans.{stopped, went_on}
use Rattle.distinct.specs.Pairs.{last-tested}
use Rattle.std.proofs.Common.{ap}
use Rattle.std.proofs.Common.{not}
use Rattle.distinct.proofs.pairs.pairs_differ.Goals as goal

pub returns-then-not-is_last : goal.returns-then-not-is_last
returns-then-not-is_last c =
    let loop = c.loop-done in
    let loop-test = c.loop-done-test in
    let is_last = c.is_last in
    let if1 = c.if-not-is_last in
    stopped loop.invariant refl loop-test.true (last-tested _ _ is_last.ensures) (ap not if1.true)

pub loop-done-preserved : goal.loop-done-preserved
loop-done-preserved c =
    let loop = c.loop-done in
    let loop-test = c.loop-done-test in
    let is_last = c.is_last in
    let if1 = c.if-not-is_last in
    went_on loop.invariant refl loop-test.true (last-tested _ _ is_last.ensures) (ap not if1.false)
