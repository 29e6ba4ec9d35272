-- `store::image::set_entry` meets its contract. Assumes nothing.
use Rattle.store.specs.Tables.{entries_fit, set_becomes}
use native.Mathlib.Omega.{arith}
use Rattle.store.proofs.image.set_entry.Goals as goal

pub edit_entry-requires-clause-position_bound : goal.edit_entry-requires-clause-position_bound
edit_entry-requires-clause-position_bound c =
    let pre = c.requires in
    let args = c.args in
    omega (arith, pre.position_in_bounds, entries_fit pre.formed args.t)

pub returns : goal.returns
returns c =
    let pre = c.requires in
    let count_word = c.count_word-count in
    let edit-entry = c.edit_entry in
    set_becomes pre.formed pre.position_in_bounds count_word.ensures edit-entry.ensures
