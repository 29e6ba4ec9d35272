-- `property_table::find_held` meets its contract. Assumes nothing.
use mathlib.Core.Path.{sym}
use native.Mathlib.Omega.{arith}
use Rattle.theorems.specs.Facts.{used_place_inside}
use Rattle.property_table.specs.Copies.{entries_in}
use Rattle.property_table.specs.Readable.{readable}
use Rattle.property_table.specs.Lookup.{position_inside, property_found}
use Rattle.property_table.proofs.find_held.Goals as goal

pub get_shape-s-requires-clause-place : goal.get_shape-s-requires-clause-place
get_shape-s-requires-clause-place c = used_place_inside _ _ c.requires.used

pub position_of_held-position-requires : goal.position_of_held-position-requires
position_of_held-position-requires c =
    let pre = c.requires in
    let its = readable pre.sound _ pre.used c.get_shape-s.ensures in
    rw c.of.ensures record { formed = pre.formed; there = its.there; held = rw c.get_shape-s.ensures pre.n_value }

pub property_at-requires : goal.property_at-requires
property_at-requires c =
    let pre = c.requires in
    let its = readable pre.sound _ pre.used c.get_shape-s.ensures in
    let es = entries_in c.args.image.now c.get_shape-s.result.table in
    let found = rw c.of.ensures at (sym c.position_of_held-position.ensures) in
    let inside = position_inside c.args.key es its.there.enough found in
    record {
      formed = pre.formed;
      place = its.there.place;
      position_in_bounds = omega (arith, inside, its.there.enough);
      slotted = its.slotted;
    }

pub returns : goal.returns
returns c =
    let its = readable c.requires.sound _ c.requires.used c.get_shape-s.ensures in
    let es = entries_in c.args.image.now c.get_shape-s.result.table in
    let found = rw c.of.ensures at (sym c.position_of_held-position.ensures) in
    rw (← c.get_shape-s.ensures) (property_found c.args.key es its.there.enough found c.property_at.ensures)
