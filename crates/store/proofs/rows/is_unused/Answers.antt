-- `store::rows::is_unused` meets its contract. Assumes nothing.
use Rattle.store.specs.FreePlaces.{row_unused}
use Rattle.store.proofs.rows.is_unused.Goals as goal

pub returns : goal.returns
returns c = row_unused _ _ _ _ _ c.requires.before_lt_count c.row-record.ensures
