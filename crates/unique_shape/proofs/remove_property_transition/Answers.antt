-- `unique_shape::remove_property_transition` meets its contract. Assumes nothing.
use mathlib.Core.Path.{sym, ◌∙◌}
use Rattle.unique_shape.specs.Rules.{its-entry, remove_absent, remove_held}
use Rattle.unique_shape.proofs.remove_property_transition.Goals as goal

pub replace-requires-clause-can_copy : goal.replace-requires-clause-can_copy
replace-requires-clause-can_copy c = (its-entry _ _ _ (sym c.find.ensures ∙ c.in-Some.is)).inside

pub returns-in_default : goal.returns-in_default
returns-in_default c = remove_absent _ _ _ c.requires.formed (sym c.find.ensures ∙ c.in_default.is)

pub returns : goal.returns
returns c =
    remove_held _ _ _ (sym c.find.ensures ∙ c.in-Some.is) _ _
    c.get_shape-s.ensures c.replace.ensures
