-- The numbers of a reply, in their order.
-- Assumes nothing.
use Rattle.std.specs.Prelude.{List, [], ◌∷◌, ◌≡◌, refl, ℕ, Err, Ok, Result}
use Rattle.rules.specs.declared.Refusal.{Refusal}
use Rattle.rules.specs.Replies.{keys_reply, number_reply}
use Rattle.rules.specs.Runner.{four_numbers}
use Rattle.replies.specs.declared.ReplyNumbers.{ReplyNumbers}

abbrev pub numbers_of : ReplyNumbers → List ℕ
numbers_of n = n.refusal ∷ n.first ∷ n.second ∷ n.third ∷ []

-- A key list is told by its count.
pub count_told : (r : Result ℕ Refusal) → four_numbers (number_reply r) ≡ four_numbers (keys_reply [] r)
count_told (Ok n) = refl
count_told (Err x) = refl
