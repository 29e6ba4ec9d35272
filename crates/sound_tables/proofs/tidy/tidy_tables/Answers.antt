-- `sound_tables::tidy::tidy_tables` meets its contract. Assumes nothing.
use mathlib.Core.Path.{refl}
use Rattle.sound_tables.specs.Tidy.{tables_area, tables_tidy}
use Rattle.sound_tables.proofs.tidy.tidy_tables.Goals as goal

pub tidy_rows-requires-clause-area : goal.tidy_rows-requires-clause-area
tidy_rows-requires-clause-area c =
    let args = c.args in
    let pre = c.requires in
    let limits-in = c.limits_in-limits in
    tables_area args.image.now pre.image_value pre.image_value_2 limits-in.ensures refl
    refl

pub returns : goal.returns
returns c =
    let args = c.args in
    let pre = c.requires in
    let limits-in = c.limits_in-limits in
    let tidy-rows = c.tidy_rows in
    tables_tidy args.image.now pre.image_value pre.image_value_2 limits-in.ensures refl
    refl tidy-rows.ensures
