-- What a call from C promises: four numbers, and every lent word afterwards.
-- Assumes nothing.
use Rattle.std.specs.Prelude.{Bool, List, [], ◌≡◌, refl, ℕ, Err, Ok, Result}
use Rattle.std.proofs.Common.{◌∙◌, ap}
use Rattle.std.specs.Prelude.{if◌then◌else◌}
use Rattle.store.specs.declared.Limits.{Limits}
use Rattle.rules.specs.declared.Refusal.{Refusal}
use Rattle.rules.specs.declared.Refusal.TheVariants.{Damaged}
use Rattle.rules.specs.Sound.{sound}
use Rattle.rules.specs.Calls.{Given, Freed, Done, Found, NotFound, Listed, Number, Reply, No, Yes}
use Rattle.rules.specs.Replies.{keys_reply, KeptIfRefused}
use Rattle.rules.specs.Runner.{four_numbers}
use Rattle.replies.specs.declared.ReplyNumbers.{ReplyNumbers}
use Rattle.replies.specs.Numbers.{numbers_of}

abbrev answer : List ℕ → Reply → List ℕ × Reply
answer ws r = (ws, r)

abbrev in_numbers : List ℕ × Reply → List ℕ × List ℕ
in_numbers (ws, r) = (ws, four_numbers r)

abbrev pair : List ℕ → List ℕ → List ℕ × List ℕ
pair ws ns = (ws, ns)

-- The lent words and the numbers are what document 01's call leaves and answers.
abbrev pub Tells : (after : List ℕ) → ReplyNumbers → List ℕ × Reply → Type 0
Tells after n said = pair after (numbers_of n) ≡ in_numbers said

-- "S shapes, T tables, K keys per table, E edges"
abbrev pub limits_are : (s t k e : ℕ) → Limits
limits_are s t k e = record { S = s; T = t; K = k; E = e }

-- Damaged: "image not sound"; a question, which leaves the words as they are.
abbrev pub tested : List ℕ → List ℕ × Reply
tested ws = (ws, if sound ws then Yes Done else No Damaged)

-- The lent list afterwards: "written at the front of a lent slice, the rest of it unchanged"; a refusal "leaves all
-- lent words unchanged". The key list gives no other answer than these two.
abbrev pub listed_in : (out : List ℕ) → List ℕ × Reply → List ℕ
listed_in out (ws, No r) = out
listed_in out (ws, Yes (Listed count after)) = after
listed_in out (ws, Yes (Given n action transitions)) = out
listed_in out (ws, Yes (Freed shapes tables)) = out
listed_in out (ws, Yes Done) = out
listed_in out (ws, Yes (Found slot attributes)) = out
listed_in out (ws, Yes NotFound) = out
listed_in out (ws, Yes (Number n)) = out

-- A public call's promise, and that of the numbers of its answer, are the promise to C.
pub tells : (after : List ℕ) (n : ReplyNumbers) (said : List ℕ × Reply) (r : Reply) → answer after r ≡ said
    → numbers_of n ≡ four_numbers r
    → Tells after n said
tells after n said r did its = ap (pair after) its ∙ ap in_numbers did

pub is_tested : (ws : List ℕ) (b : Bool) → b ≡ sound ws
    → answer ws (if b then Yes Done else No Damaged) ≡ tested ws
is_tested ws b is = ap (λ (x : Bool). answer ws (if x then Yes Done else No Damaged)) is

-- The key list has a second lent slice. Its numbers are the count alone, whatever the list is.
pub lists : (ws out after : List ℕ) (said : List ℕ × Reply) (n : ReplyNumbers) (r : Result ℕ Refusal)
    → answer ws (keys_reply after r) ≡ said
    → KeptIfRefused r out after
    → numbers_of n ≡ four_numbers (keys_reply [] r)
    → Tells ws n said × (after ≡ listed_in out said)
lists ws out after said n r did kept its =
    (tells ws n said (keys_reply after r) did (its ∙ count r), written r kept ∙ ap (listed_in out) did)
  where
    count : (x : Result ℕ Refusal) → four_numbers (keys_reply [] x) ≡ four_numbers (keys_reply after x)
    count (Ok k) = refl
    count (Err x) = refl

    written : (x : Result ℕ Refusal) → KeptIfRefused x out after → after ≡ listed_in out (answer ws (keys_reply after x))
    written (Ok k) e = refl
    written (Err x) e = e
