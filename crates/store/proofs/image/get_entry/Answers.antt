-- `store::image::get_entry` meets its contract. Assumes nothing.
use Rattle.store.specs.Layout.{parse}
use Rattle.store.specs.Model.{table_at}
use Rattle.store.specs.Tables.{entries_fit, table_long, entry_in}
use Rattle.store.specs.Layout.{read_entry}
use lib.ListN.{length}
use mathlib.Core.Path.{◌∙◌, ap}
use native.Mathlib.Omega.{arith}
use Rattle.store.proofs.image.get_entry.Goals as goal

pub overflow_add-position : goal.overflow_add-position
overflow_add-position c =
    let pre = c.requires in
    let args = c.args in
    omega (arith, entries_fit pre.formed args.t)

pub row-requires : goal.row-requires
row-requires c =
    let table-words = c.table_words-table in
    let pre = c.requires in
    let args = c.args in (
      omega arith,
      rw table-words.ensures
          (omega (arith, entries_fit pre.formed args.t, table_long pre.formed args.t)),
    )

pub read_entry-requires : goal.read_entry-requires
read_entry-requires c =
    let args = c.args in
    let pre = c.requires in
    let table-words = c.table_words-table in
    let row = c.row in
    ap length
    (entry_in (parse args.image.now).K (table_at (parse args.image.now) args.t)
    args.position.0 pre.position_in_bounds table-words.ensures row.ensures)

pub returns : goal.returns
returns c =
    let read-entry = c.read_entry in
    let args = c.args in
    let pre = c.requires in
    let table-words = c.table_words-table in
    let row = c.row in
    read-entry.ensures ∙ ap read_entry
    (entry_in (parse args.image.now).K (table_at (parse args.image.now) args.t)
    args.position.0 pre.position_in_bounds table-words.ensures row.ensures)
