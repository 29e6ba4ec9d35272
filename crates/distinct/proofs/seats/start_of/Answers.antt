-- `distinct::seats::start_of` meets its contract. Assumes nothing.
use mathlib.Core.Path.{refl}
use Rattle.distinct.specs.Seats.{start_of}
use Rattle.distinct.proofs.seats.start_of.Goals as goal

pub returns : goal.returns
unfolding start_of
returns c = refl
