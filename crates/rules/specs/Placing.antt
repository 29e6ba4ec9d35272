-- What code says of a rule: the words afterwards and the answer, for a result and for a refusal.
-- Assumes nothing.
use Rattle.std.specs.Prelude.{List, [], ◌∷◌, map, length, get_or, take, drop, ◌≡◌, refl, ℕ, zero, suc, ◌-◌, ◌<◌}
use Rattle.std.specs.Prelude.{Err, Ok, Result}
use Rattle.std.proofs.Common.{sym, ◌∙◌, ap, arith, not-suc-le-zero, le_of_suc-le-suc}
use Rattle.std.proofs.lemmas.List.{length-drop, take_all, drop-map}
use Rattle.store.specs.Model.{Model}
use Rattle.store.specs.Image.{Becomes, and_then}
use Rattle.rules.specs.declared.Step.{Step as StepValue}
use Rattle.rules.specs.declared.StepRecord.{StepRecord}
use Rattle.rules.specs.declared.Step.TheVariants.{Insert, Configure, Prototype}
use Rattle.rules.specs.declared.Refusal.{Refusal}
use Rattle.rules.specs.Refusals.{Got, ok, refused}
use Rattle.rules.specs.Steps.{Step, insert, configure, prototype, step_of_kind, Placed}

-- The definitions' step for the code's.
abbrev pub step_in : StepValue → Step
step_in (Insert k a) = insert k a
step_in (Configure k a) = configure k a
step_in (Prototype p) = prototype p

-- The step that three numbers say.
abbrev pub step_of_record : StepRecord → Step
step_of_record t = step_of_kind t.kind t.label t.attributes

-- What is left of a list from one step on: that step first.
pub next_step : (xs : List StepValue) (i : ℕ) (d : StepValue) → i < length xs
    → drop i (map step_in xs) ≡ step_in (get_or xs i d) ∷ drop (suc i) (map step_in xs)
next_step [] i d h = absurd (not-suc-le-zero h)
next_step (x ∷ xs) zero d h = refl
next_step (x ∷ xs) (suc i) d h = next_step xs i d (le_of_suc-le-suc h)

-- The part of a slice from one step on.
pub steps_from : (xs : List StepValue) (i : ℕ)
    → map step_in (take (length xs - i) (drop i xs)) ≡ drop i (map step_in xs)
steps_from xs i =
    let long = length-drop i xs in
    ap (map step_in) (take_all (length xs - i) (drop i xs) (omega arith)) ∙ sym (drop-map step_in i xs)

-- A result is written, and answered as `given` says it; "Every one" of the refusals "leaves all lent words
-- unchanged, prunes included".
abbrev pub Does : {A R : Type 0} → (given : A → R) (denied : Refusal → R) → (before after : List ℕ)
    → Got (Model × A) → R → Type 0
Does given denied before after (ok (m, a)) r = Becomes before after m × (r ≡ given a)
Does given denied before after (refused x) r = (after ≡ before) × (r ≡ denied x)

-- A rule of a shape.
abbrev pub Places : (before after : List ℕ) → Got Placed → Result ℕ Refusal → Type 0
Places = Does Ok Err

-- The rule gives a result.
abbrev pub Passes : {A : Type 0} → Got A → Type 0
Passes {A} g = (y : A) × (g ≡ ok y)

-- It then says the words and the place, and no more.
module _ {before after : List ℕ} {g : Got Placed} {y : Placed} (passed : g ≡ ok y) {r : ℕ} where
  pub places : Becomes before after y.0 → r ≡ y.1 → Places before after g (Ok r)
  places became its = rw passed (became, ap Ok its)

  pub placed : Places before after g (Ok r) → Becomes before after y.0 × (r ≡ y.1)
  placed p = let (became, its) = rw passed at p in (became, cc)

-- A change, and then a rule that gives what h gives.
pub then_places : {a b : List ℕ} (c : List ℕ) {m : Model} {g h : Got Placed} (r : ℕ) → g ≡ h → Passes h
    → Becomes a b m → Places b c g (Ok r) → Places a c h (Ok r)
then_places c r same (y, passed) first p =
    let (became, its) = placed (same ∙ passed) p in
    places passed (and_then first became) its
