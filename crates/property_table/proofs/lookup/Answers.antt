-- `property_table::lookup` meets its contract. Assumes nothing.
use mathlib.Core.Path.{sym, ◌∙◌}
use native.Mathlib.Omega.{arith}
use Rattle.property_table.specs.Copies.{entries_in}
use Rattle.property_table.specs.Lookup.{position_inside, property_found}
use Rattle.property_table.proofs.lookup.Goals as goal

pub property_at-requires-clause-position_in_bounds : goal.property_at-requires-clause-position_in_bounds
property_at-requires-clause-position_in_bounds c =
    let args = c.args in
    let pre = c.requires in
    let its = sym c.position_of.ensures ∙ c.in_ok-position.was in
    let inside = position_inside args.key (entries_in args.image.now args.first.table) pre.there.enough its in
    omega (arith, inside, pre.there.enough)

pub returns : goal.returns
returns c =
    let args = c.args in
    let its = sym c.position_of.ensures ∙ c.in_ok-position.was in
    property_found args.key (entries_in args.image.now args.first.table) c.requires.there.enough its
    c.property_at.ensures
