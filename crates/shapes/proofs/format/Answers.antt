-- `shapes::format` meets its contract. Assumes nothing.
use mathlib.Core.Bool.{true, false}
use mathlib.Core.Path.{sym, ◌∙◌}
use Rattle.shapes.specs.Called.{formats}
use Rattle.shapes.proofs.format.Goals as goal

pub returns-then-not-format : goal.returns-then-not-format
returns-then-not-format c =
    let its = c.format.ensures in
    formats _ _ _ false (sym (c.if-not-format.true) ∙ its.value) its.image_after

pub returns : goal.returns
returns c =
    let its = c.format.ensures in
    formats _ _ _ true (sym (c.if-not-format.false) ∙ its.value) its.image_after
