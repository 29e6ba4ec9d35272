-- `store::rows::lowest_unused` meets its contract. Assumes nothing.
use Rattle.store.specs.Scans.{stopped, ended}
use Rattle.store.specs.Rows.{length-rows}
use mathlib.Core.Path.{sym}
use Rattle.store.proofs.rows.lowest_unused.Goals as goal

pub returns-then-is_unused : goal.returns-then-is_unused
returns-then-is_unused c =
    let loop = c.loop-done in
    let loop-test = c.loop-done-test in
    let is-unused = c.is_unused in
    let if1 = c.if-is_unused in
    stopped loop.invariant (sym (length-rows _ _ _)) loop-test.true is-unused.ensures if1.true

pub returns : goal.returns
returns c = ended c.loop-done.invariant (sym (length-rows _ _ _)) c.loop-done-test.false
