-- `sound_shapes::widths::width_fits` meets its contract. Assumes nothing.
use mathlib.Core.Path.{sym, ◌∙◌}
use native.Mathlib.Omega.{arith}
use Rattle.store.specs.Layout.{parse}
use Rattle.sound_shapes.specs.Labels.{held-inside, held-answer}
use Rattle.sound_shapes.proofs.widths.width_fits.Goals as goal

pub get_entry-held-requires-clause-position_in_bounds : goal.get_entry-held-requires-clause-position_in_bounds
get_entry-held-requires-clause-position_in_bounds c =
    let args = c.args in
    let pre = c.requires in
    let position-of = c.position_of in
    let there = sym (rw c.of.ensures at position-of.ensures) ∙ c.in-Some.is in
    let inside = held-inside (parse args.image.now) args.s pre.keyed args.key there in
    omega (arith, inside, pre.keyed.tabled.fits)

pub returns-in-Some : goal.returns-in-Some
returns-in-Some c =
    let args = c.args in
    let pre = c.requires in
    let position-of = c.position_of in
    let get-entry = c.get_entry-held in
    let width-match = c.width_match in
    let there = sym (rw c.of.ensures at position-of.ensures) ∙ c.in-Some.is in
    held-answer (parse args.image.now) args.s pre.keyed args.key there args.absent _ get-entry.ensures
    width-match.ensures
