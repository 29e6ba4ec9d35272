-- `store::rows::count_unused` meets its contract. Assumes nothing.
use Rattle.store.specs.FreePlaces.{unused}
use Rattle.store.specs.Scans.{count_next, counted-all, one_counted}
use Rattle.store.specs.Rows.{length-rows}
use mathlib.Core.List.{[]}
use Rattle.store.proofs.rows.count_unused.Goals as goal

pub loop-done-preserved : goal.loop-done-preserved
loop-done-preserved c =
    let loop = c.loop-done in
    let loop-test = c.loop-done-test in
    let one = c.from-free in
    let is-unused = c.is_unused in
    count_next unused loop.invariant [] (rw length-rows loop-test.true) is-unused.ensures
    (one_counted is-unused.result one.ensures)

pub returns : goal.returns
returns c = counted-all unused c.loop-done.invariant (rw length-rows c.loop-done-test.false)
