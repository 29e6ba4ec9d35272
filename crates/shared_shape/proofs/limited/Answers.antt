-- `shared_shape::limited` meets its contract. Assumes nothing.
use Rattle.shared_shape.specs.Transition.{its_used, its-place, limit_reached, below_the_limit}
use Rattle.shared_shape.proofs.limited.Goals as goal

pub get_shape-s-requires-clause-place : goal.get_shape-s-requires-clause-place
get_shape-s-requires-clause-place c =
    let pre = c.requires in
    its-place _ pre.sound _ pre.shared_at

pub to_unique-requires-clause-used : goal.to_unique-requires-clause-used
to_unique-requires-clause-used c =
    let pre = c.requires in
    its_used _ pre.sound _ pre.shared_at

pub returns-then-s-eq-MOST_TRANSITIONS : goal.returns-then-s-eq-MOST_TRANSITIONS
returns-then-s-eq-MOST_TRANSITIONS c =
    let to-unique = c.to_unique in
    let if1 = c.if-s-eq-MOST_TRANSITIONS in
    let get-shape = c.get_shape-s in
    limit_reached _ _ get-shape.ensures if1.true _ _ to-unique.ensures

pub returns : goal.returns
returns c =
    let get-shape = c.get_shape-s in
    let pre = c.requires in
    below_the_limit _ _ get-shape.ensures pre.formed c.if-s-eq-MOST_TRANSITIONS.false
