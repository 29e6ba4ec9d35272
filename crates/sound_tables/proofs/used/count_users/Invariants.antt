-- `sound_tables::used::count_users` meets its contract. Assumes nothing.
use lib.ListN.{length}
use Rattle.store.specs.Layout.{parse}
use Rattle.sound_tables.specs.Used.{CountingUsers}
use Rattle.sound_tables.proofs.used.count_users.Given as goal

abbrev pub invariant-loop-done : goal.invariant-loop-done
invariant-loop-done l = CountingUsers (parse l.image) (length l.initial.users) l.done l.users
