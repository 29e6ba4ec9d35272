-- `key_position::keys_before` meets its contract. Assumes nothing.
use Rattle.store.specs.Layout.{parse}
use Rattle.store.specs.Model.{table_at, entries_of}
use Rattle.key_position.specs.Positions.{Seeking}
use Rattle.key_position.proofs.keys_before.Given as goal

abbrev pub invariant-loop-at : goal.invariant-loop-at
invariant-loop-at l = Seeking l.key (entries_of (table_at (parse l.image) l.first.table)) l.first.count l.at
