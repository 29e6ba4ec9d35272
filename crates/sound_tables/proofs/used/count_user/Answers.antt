-- `sound_tables::used::count_user` meets its contract. Assumes nothing.
use mathlib.Core.Path.{refl}
use Rattle.sound_tables.specs.Used.{no_user, one_user}
use Rattle.sound_tables.proofs.used.count_user.Goals as goal

pub returns-then-s-eq-FREE : goal.returns-then-s-eq-FREE
returns-then-s-eq-FREE c =
    let args = c.args in
    let if1 = c.if-s-eq-FREE in
    no_user args.users.now args.s if1.true

pub returns : goal.returns
returns c =
    let args = c.args in
    let if1 = c.if-s-eq-FREE in
    one_user args.users.now args.s if1.false refl
