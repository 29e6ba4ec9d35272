-- `distinct::seats::fill_seats` meets its contract. Assumes nothing.
use mathlib.Core.Path.{sym, refl}
use Rattle.distinct.specs.Seats.{walk_begins, met_equal, walks_on, sits_down, all_seated}
use Rattle.distinct.proofs.seats.fill_seats.Goals as goal
use Rattle.distinct.proofs.seats.fill_seats.Goals.{then-seat-eq0+else-done-codes, else-seat-eq0+else-codes-seat}

pub loop-init : goal.loop-init
loop-init c =
    walk_begins _ c.clear.ensures c.start_of-at.ensures c.requires.codes_nonzero c.requires.seats_nonzero

pub returns-then-done-codes : goal.returns-then-done-codes
returns-then-done-codes c =
    sym (all_seated c.loop.invariant refl c.if-seat-eq0.true c.if-done-codes.true)

pub returns-then-codes-seat : goal.returns-then-codes-seat
returns-then-codes-seat c =
    sym (met_equal c.loop.invariant refl c.if-seat-eq0.false c.if-codes-seat.true)

pub loop-preserved : goal.loop-preserved
loop-preserved c =
    elim c.if-seat-eq0.branch [
      | then-seat-eq0+else-done-codes w ↦
          rw (w.seats-is, w.done-is, w.at-is)
          (sits_down c.loop.invariant refl w.if-seat-eq0.true w.if-done-codes.false
          w.start_of-at-then-seat-eq0.ensures)
      | else-seat-eq0+else-codes-seat w ↦
          rw (w.seats-is, w.done-is, w.at-is)
          (walks_on c.loop.invariant refl w.if-seat-eq0.false w.if-codes-seat.false
          w.seat_after-at.ensures)
    ]
