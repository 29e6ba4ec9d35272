-- `store::image::append_entry` meets its contract. Assumes nothing.
use Rattle.store.specs.Tables.{added_becomes}
use mathlib.Core.Path.{refl}
use Rattle.store.proofs.image.append_entry.Goals as goal

pub returns : goal.returns
returns c =
    let pre = c.requires in
    let count_word = c.count_word-count in
    let edit-entry = c.edit_entry in
    added_becomes pre.formed pre.t_value pre.t_len_bound count_word.ensures refl refl edit-entry.ensures
