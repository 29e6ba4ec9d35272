-- `key_position::position_of` meets its contract. Assumes nothing.
use mathlib.Core.Path.{sym}
use lib.Seq.{length-take-le}
use Rattle.store.specs.Layout.{parse}
use Rattle.key_position.specs.First.{first_entries}
use Rattle.key_position.specs.Positions.{held-nowhere, held_somewhere}
use Rattle.key_position.proofs.position_of.Goals as goal

pub returns-then-at-first : goal.returns-then-at-first
returns-then-at-first c =
    let args = c.args in
    let es = first_entries (parse args.image.now) args.first in
    let many = sym (length-take-le _ _ c.requires.there.enough) in
    held-nowhere args.key es c.keys_before-at.ensures many c.if-at-first.true

pub returns : goal.returns
returns c =
    let args = c.args in
    let es = first_entries (parse args.image.now) args.first in
    let many = sym (length-take-le _ _ c.requires.there.enough) in
    held_somewhere args.key es c.keys_before-at.ensures many c.if-at-first.false
