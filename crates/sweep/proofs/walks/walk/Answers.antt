-- `sweep::walks::walk` meets its contract. Assumes nothing.
use mathlib.Core.Path.{sym, ◌∙◌}
use Rattle.theorems.specs.Facts.{used_place_inside}
use Rattle.sweep.specs.Marks.{unmarked-less}
use Rattle.sweep.specs.Walks.{walk_on, standing-inside, standing_on_chain}
use Rattle.sweep.proofs.walks.walk.Goals as goal

pub get_shape-s-requires-clause-place : goal.get_shape-s-requires-clause-place
get_shape-s-requires-clause-place c =
    let loop = c.loop-n in
    let loop-test = c.loop-n-test in
    used_place_inside _ _ (standing_on_chain _ loop.invariant loop-test.true).is_used

pub loop-n-smaller : goal.loop-n-smaller
loop-n-smaller c =
    let mark = c.mark in
    let loop = c.loop-n in
    let loop-test = c.loop-n-test in
    let is-marked = c.is_marked in
    let if1 = c.if-is_marked in
    rw mark.ensures
    (unmarked-less loop.marks loop.n (standing-inside _ loop.invariant loop-test.true)
    (sym is-marked.ensures ∙ if1.false))

pub loop-n-preserved : goal.loop-n-preserved
loop-n-preserved c =
    let mark = c.mark in
    let get-shape = c.get_shape-s in
    let loop = c.loop-n in
    let pre = c.requires in
    let loop-test = c.loop-n-test in
    rw (mark.ensures, get-shape.ensures) (walk_on _ loop.invariant pre.sound loop-test.true)
