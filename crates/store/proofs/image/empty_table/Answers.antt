-- `store::image::empty_table` meets its contract. Assumes nothing.
use Rattle.store.specs.Tables.{table-put, put_then}
use Rattle.store.specs.Model.{Model, free, used, table_at}
use mathlib.Core.List.{[]}
use mathlib.Core.Path.{◌∙◌, ap}
use Rattle.store.proofs.image.empty_table.Goals as goal

pub start_table-requires-clause-t_value : goal.start_table-requires-clause-t_value
start_table-requires-clause-t_value c =
    let free-table = c.free_table in
    let pre = c.requires in
    let args = c.args in
    ap (λ (m : Model). table_at m args.t)
    free-table.ensures.parsed ∙ table-put _ _ free pre.place

pub returns : goal.returns
returns c =
    let args = c.args in
    let free-table = c.free_table in
    let start-table = c.start_table in
    put_then _ args.t free (used []) free-table.ensures start-table.ensures
