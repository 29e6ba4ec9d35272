-- `shared_shape::width_stays` meets its contract. Assumes nothing.
use Rattle.store.specs.Layout.{parse}
use Rattle.theorems.specs.Made.{entries_at}
use Rattle.shared_shape.specs.Transition.{its_used}
use Rattle.shared_shape.specs.Replays.{width-told}
use Rattle.shared_shape.proofs.width_stays.Goals as goal

pub find_held-property-requires-clause-used : goal.find_held-property-requires-clause-used
find_held-property-requires-clause-used c =
    let pre = c.requires in
    its_used _ pre.sound _ pre.shared_at

pub returns : goal.returns
returns c =
    let args = c.args in
    let find-held = c.find_held-property in
    let width-match = c.width_match in
    width-told args.key _ (entries_at (parse args.image.now) args.n) find-held.ensures
    width-match.ensures
