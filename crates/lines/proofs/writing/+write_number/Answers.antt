-- `lines::writing::write_number` meets its contract. Assumes nothing.
use native.Mathlib.Omega.{arith}
use Rattle.lines.specs.Writing.{small-room, small-written, large_room, large_written, room-left}
use Rattle.lines.proofs.writing.+write_number.Goals as goal

pub bounds-out-at : goal.bounds-out-at
bounds-out-at t c = small-room c.args.n c.if-n-lt10.true c.requires

pub returns-then-n-lt10 : goal.returns-then-n-lt10
returns-then-n-lt10 t c = small-written c.args.n _ _ c.if-n-lt10.true

pub write_number-end-requires : goal.write_number-end-requires
write_number-end-requires t c =
    let room = large_room c.args.n c.args.at c.if-n-lt10.false c.requires in
    (omega arith, omega arith)

pub bounds-out-end : goal.bounds-out-end
bounds-out-end t c =
    let room = large_room c.args.n c.args.at c.if-n-lt10.false c.requires in
    room-left c.write_number-end.ensures room

pub overflow_add-result-2 : goal.overflow_add-result-2
overflow_add-result-2 t c =
    let room = large_room c.args.n c.args.at c.if-n-lt10.false c.requires in
    omega (arith, room-left c.write_number-end.ensures room)

pub returns : goal.returns
returns t c = large_written c.args.n c.if-n-lt10.false c.write_number-end.ensures
