-- `rollback::last_entry` meets its contract. Assumes nothing.
use Rattle.rollback.specs.WalkBack.{last-read}
use Rattle.rollback.proofs.last_entry.Goals as goal

pub returns : goal.returns
returns c =
    let pre = c.requires in
    last-read _ pre.tabled.fits c.if-s-eq0.false c.get_entry.ensures
