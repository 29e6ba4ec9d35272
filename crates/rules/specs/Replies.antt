-- What the code's answers say, in document 01's words.
-- Assumes nothing.
use Rattle.std.specs.Prelude.{List, ◌≡◌, ℕ, Err, IsErrAnd, None, Ok, Option, Result, Some}
use Rattle.std.proofs.Common.{ap}
use Rattle.store.specs.Model.{Model}
use Rattle.slot.specs.declared.Slot.{Slot}
use Rattle.rules.specs.declared.FreedPlaces.{FreedPlaces}
use Rattle.rules.specs.declared.GivenShape.{GivenShape}
use Rattle.rules.specs.declared.Refusal.{Refusal}
use Rattle.rules.specs.Refusals.{Got}
use Rattle.rules.specs.Calls.{Answer, Given, Freed, Done, Found, NotFound, Listed, Number}
use Rattle.rules.specs.Calls.{Reply, No, Yes}
use Rattle.rules.specs.Placing.{Does}

-- A call's rule.
abbrev pub Answers : (before after : List ℕ) → Got (Model × Answer) → Reply → Type 0
Answers = Does Yes No

abbrev pub shape_reply : Result GivenShape Refusal → Reply
shape_reply (Ok g) = Yes (Given g.shape g.action g.transitions)
shape_reply (Err r) = No r

abbrev pub done_reply : Result Unit Refusal → Reply
done_reply (Ok _) = Yes Done
done_reply (Err r) = No r

abbrev pub sweep_reply : Result FreedPlaces Refusal → Reply
sweep_reply (Ok f) = Yes (Freed f.shapes f.tables)
sweep_reply (Err r) = No r

abbrev pub lookup_reply : Result (Option Slot) Refusal → Reply
lookup_reply (Ok (Some s)) = Yes (Found s.index.0 s.attributes.0)
lookup_reply (Ok None) = Yes NotFound
lookup_reply (Err r) = No r

-- The list stands in the lent slice.
abbrev pub keys_reply : (out : List ℕ) → Result ℕ Refusal → Reply
keys_reply out (Ok n) = Yes (Listed n out)
keys_reply out (Err r) = No r

-- A refusal leaves the slice as it was.
abbrev pub KeptIfRefused : Result ℕ Refusal → (before after : List ℕ) → Type 0
KeptIfRefused (Ok n) before after = Unit {0}
KeptIfRefused (Err r) before after = after ≡ before

abbrev pub number_reply : Result ℕ Refusal → Reply
number_reply (Ok n) = Yes (Number n)
number_reply (Err r) = No r

-- `?` hands a refusal on as it is.
pub handed_on : {A : Type 0} (r : Result A Refusal) (x : Refusal) → IsErrAnd r (λ y. y ≡ x) → r ≡ Err x
handed_on (Ok a) x h = absurd h
handed_on (Err y) x h = ap Err h
