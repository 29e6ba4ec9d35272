-- `sound_tables::good::entries_right` meets its contract. Assumes nothing.
use lib.ListN.{length}
use Rattle.store.specs.Layout.{parse}
use Rattle.store.specs.Model.{entries_of, table_at}
use Rattle.sound_tables.specs.Good.{Right}
use Rattle.sound_tables.proofs.good.entries_right.Given as goal

abbrev pub invariant-loop-at : goal.invariant-loop-at
invariant-loop-at l = Right (entries_of (table_at (parse l.image) l.t)) (length l.initial.codes) l.at l.next.0 l.codes
