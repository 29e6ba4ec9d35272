-- `sweep::walks::walk_if_held` meets its contract. Assumes nothing.
use borrow.Author.Tests.{ne_eqb}
use Rattle.theorems.specs.HeldChains.{held_on_its_chain}
use Rattle.sweep.proofs.walks.walk_if_held.Goals as goal

pub walk-requires-clause-on_held_chain : goal.walk-requires-clause-on_held_chain
walk-requires-clause-on_held_chain c =
    let pre = c.requires in
    let get-shape = c.get_shape-s in
    let if1 = c.if-s-ne0 in
    held_on_its_chain _ pre.sound _
    (rw (← get-shape.ensures, ne_eqb _ 0 if1.true))
