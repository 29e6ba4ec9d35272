-- `distinct::seats::fill_seats` meets its contract. Assumes nothing.
use Rattle.distinct.specs.Seats.{Walking}
use Rattle.distinct.proofs.seats.fill_seats.Given as goal

abbrev pub invariant-loop : goal.invariant-loop
invariant-loop l = Walking l.codes l.seats l.many l.done l.at
