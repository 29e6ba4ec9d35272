-- `distinct::orders::follow_order` meets its contract. Assumes nothing.
use mathlib.Core.Path.{sym, ◌∙◌}
use Rattle.distinct.specs.Rising.{along-distinct, equal_twice}
use Rattle.distinct.proofs.orders.follow_order.Goals as goal

pub returns-then-risen_to-order : goal.returns-then-risen_to-order
returns-then-risen_to-order c =
    let risen = sym c.count_risen-risen_to.ensures.value ∙ c.if-risen_to-order.true in
    sym (along-distinct _ _ c.requires risen)

pub returns-then-are_equal : goal.returns-then-are_equal
returns-then-are_equal c = sym (equal_twice _ _ _ (sym c.are_equal.ensures ∙ c.if-are_equal.true))
