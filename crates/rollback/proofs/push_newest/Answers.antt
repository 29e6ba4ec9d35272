-- `rollback::push_newest` meets its contract. Assumes nothing.
use mathlib.Core.Path.{refl}
use Rattle.rollback.proofs.push_newest.Goals as goal

pub push-requires-clause-le_start : goal.push-requires-clause-le_start
push-requires-clause-le_start c =
    let pre = c.requires in
    rw c.in-Some.is at pre.newest_len_bound

pub returns-in-Some : goal.returns-in-Some
returns-in-Some c =
    rw c.in-Some.is c.push.ensures

pub returns-in-None : goal.returns-in-None
returns-in-None c = rw c.in-None.is record { inside = c.requires.start_in_bounds; steps = refl }
