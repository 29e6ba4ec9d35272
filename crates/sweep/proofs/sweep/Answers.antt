-- `sweep::sweep` meets its contract. Assumes nothing.
use Rattle.sweep.specs.Freed.{freed-shapes, freed-tables, sweep_answers}
use Rattle.sweep.proofs.sweep.Goals as goal

pub overflow_sub-result : goal.overflow_sub-result
overflow_sub-result c =
    let pre = c.requires in
    let free-unreached = c.free_unreached in
    let free-shapes = c.free_shapes-shapes in
    let free-shapes2 = c.free_shapes in
    (freed-shapes pre.sound free-unreached.ensures free-shapes.ensures free-shapes2.ensures).fits

pub overflow_sub-result-2 : goal.overflow_sub-result-2
overflow_sub-result-2 c =
    let pre = c.requires in
    let free-unreached = c.free_unreached in
    let free-tables = c.free_tables-tables in
    let free-tables2 = c.free_tables in
    (freed-tables pre.sound free-unreached.ensures free-tables.ensures free-tables2.ensures).fits

pub returns : goal.returns
returns c =
    let free-unreached = c.free_unreached in
    let pre = c.requires in
    let free-shapes = c.free_shapes-shapes in
    let free-shapes2 = c.free_shapes in
    let free-tables = c.free_tables-tables in
    let free-tables2 = c.free_tables in
    let shapes = freed-shapes pre.sound free-unreached.ensures free-shapes.ensures free-shapes2.ensures in
    let tables = freed-tables pre.sound free-unreached.ensures free-tables.ensures free-tables2.ensures in
    sweep_answers pre.sound free-unreached.ensures shapes.freed tables.freed
