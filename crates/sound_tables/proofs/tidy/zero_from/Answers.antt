-- `sound_tables::tidy::zero_from` meets its contract. Assumes nothing.
use Rattle.std.proofs.Common.{◌-◌, length, drop, take_all, length-drop, arith}
use Rattle.sound_tables.proofs.tidy.zero_from.Goals as goal

pub returns : goal.returns
returns c =
    let words = c.args.words.now in
    let from = c.args.from in
    let whole = take_all (length words - from) (drop from words) (simp length-drop (omega arith)) in
    rw whole at c.are_zero.ensures
