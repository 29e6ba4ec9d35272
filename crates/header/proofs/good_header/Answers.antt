-- `header::good_header` meets its contract. Assumes nothing.
use mathlib.Core.Path.{sym, ap, ◌∙◌}
use Rattle.store.specs.Layout.{good_limits, tables_offset, edges_offset, total}
use Rattle.header.specs.HeaderLaws.{header-words}
use Rattle.header.proofs.good_header.Goals as goal

pub returns : goal.returns
returns c =
    let good = sym c.good_limits.ensures ∙ c.if-not-good_limits.false in
    let read = c.limits_in-limits.ensures in
    rw (
      ap good_limits (sym read) ∙ good,
      header-words _ c.if-image-lt8.false,
      c.tables_offset.ensures ∙ ap tables_offset read,
      c.edges_offset.ensures ∙ ap edges_offset read,
      c.total-words.ensures ∙ ap total read,
    )
