-- `shape::change::change_attributes_transition` meets its contract. Assumes nothing.
use mathlib.Core.Path.{◌≡◌, sym, ◌∙◌}
use Rattle.std.proofs.Common.{Some, arith}
use Rattle.store.specs.Layout.{parse}
use Rattle.theorems.specs.Made.{entries_at}
use Rattle.property_table.specs.Lookup.{looked_held, looked_attributes}
use Rattle.holds.specs.Granted.{named}
use Rattle.shape.specs.Refused.{change_is}
use Rattle.shape.proofs.change.change_attributes_transition.Goals as goal

pub change-requires-clause-value : goal.change-requires-clause-value
change-requires-clause-value c =
    let es = entries_at (parse c.args.image.now) c.args.n in
    let some : c.find.result ≡ Some c.in_ok-property.property = grind arith in
    sym (looked_attributes c.args.key es (sym c.find.ensures ∙ some))

pub returns : goal.returns
returns c =
    let es = entries_at (parse c.args.image.now) c.args.n in
    let some : c.find.result ≡ Some c.in_ok-property.property = grind arith in
    let found = sym c.find.ensures ∙ some in
    let held = (looked_held {k = c.args.key} {es = es} found).held in
    let key = sym c.good_key.ensures ∙ c.if-not-good_key.false in
    let its = named c.held.ensures c.in_ok-held.was in
    rw (
      change_is _ _ _ _ key c.if-attributes-gt-MOST_STORED.false its.may held,
      looked_attributes c.args.key es found,
    ) c.change.ensures
