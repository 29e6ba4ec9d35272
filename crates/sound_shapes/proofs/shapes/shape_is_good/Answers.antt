-- `sound_shapes::shapes::shape_is_good` meets its contract. Assumes nothing.
use borrow.Author.Tests.{not-true}
use Rattle.rules.specs.InUse.{used_table_inside}
use Rattle.sound_shapes.specs.Answers.{table_in_range}
use Rattle.sound_shapes.specs.Answers.{fields_answer}
use mathlib.Core.Path.{sym, ◌∙◌}
use Rattle.sound_shapes.proofs.shapes.shape_is_good.Goals as goal

pub is_table-requires-clause-t_in_bounds : goal.is_table-requires-clause-t_in_bounds
is_table-requires-clause-t_in_bounds c =
    let pre = c.requires in
    let get-shape = c.get_shape-s in
    let if1 = c.if-s-eq-FREE in
    table_in_range _ _ get-shape.ensures pre.image_value if1.false

pub entry_count-requires-clause-place : goal.entry_count-requires-clause-place
entry_count-requires-clause-place c =
    let is-table = c.is_table in
    let if2 = c.if-is_table in
    used_table_inside _ _ (not-true _ (sym is-table.ensures ∙ if2.true))

pub returns-then-is_table : goal.returns-then-is_table
returns-then-is_table c =
    let get-shape = c.get_shape-s in
    let if1 = c.if-s-eq-FREE in
    let is-table = c.is_table in
    let if2 = c.if-is_table in
    let entry-count = c.entry_count in
    let own-fields-are-good = c.own_fields_are_good in
    fields_answer _ _ get-shape.ensures if1.false is-table.ensures if2.true
    entry-count.ensures own-fields-are-good.ensures
