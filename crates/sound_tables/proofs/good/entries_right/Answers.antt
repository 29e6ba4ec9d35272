-- `sound_tables::good::entries_right` meets its contract. Assumes nothing.
use mathlib.Core.Path.{refl}
use native.Mathlib.Omega.{arith}
use Rattle.store.specs.Layout.{parse}
use Rattle.store.specs.Model.{entries_of, table_at}
use Rattle.store.specs.Tables.{entries_fit}
use Rattle.sound_tables.specs.Good.{right_from_lem, entry_next}
use Rattle.sound_tables.specs.Good.{narrow}
use Rattle.sound_tables.proofs.good.entries_right.Goals as goal

pub loop-at-init : goal.loop-at-init
loop-at-init c =
    let args = c.args in
    let pre = c.requires in
    right_from_lem (entries_of (table_at (parse args.image.now) args.t))
    (omega (arith, entries_fit pre.formed args.t, pre.image_in_bounds))

pub after-next-requires : goal.after-next-requires
after-next-requires c =
    omega (
      arith,
      c.entry_width.ensures,
      narrow c.get_entry-e.result.attributes,
      c.loop-at.invariant.small,
      c.loop-at-test.true,
      c.entry_count-at-end.ensures,
      entries_fit c.requires.formed c.args.t,
      c.requires.formed.limited.keys,
    )

pub loop-at-preserved : goal.loop-at-preserved
loop-at-preserved c =
    let entry-right = c.entry_right in
    let if2 = c.if-not-entry_right in
    rw (c.after-next.ensures, c.from.ensures)
    (entry_next c.loop-at.invariant c.entry_count-at-end.ensures c.loop-at-test.true
    c.get_entry-e.ensures entry-right.ensures (if2.false)
    c.entry_width.ensures refl)
