-- `sound_steps::steps::may_configure` meets its contract. Assumes nothing.
use Rattle.store.specs.Layout.{parse}
use Rattle.rules.specs.Shapes.{entries}
use Rattle.sound_steps.specs.StepLaws.{may_configure}
use Rattle.sound_steps.proofs.steps.may_configure.Goals as goal

pub returns : goal.returns
returns c =
    let args = c.args in
    let width-fits = c.width_fits in
    may_configure args.edge (entries (parse args.image.now) args.p) width-fits.ensures
