-- Steps that stand in a lent slice from a place on: one more goes in front.
-- Assumes nothing.
use Rattle.std.specs.Prelude.{Bool, ◌||◌, List, [], ◌∷◌, map, length, set, take, drop, ◌≡◌, refl}
use Rattle.std.specs.Prelude.{ℕ, zero, suc, ◌+◌, ◌-◌, ◌≤◌, ◌<◌}
use Rattle.std.proofs.Common.{sym, ◌∙◌, ap, not-suc-le-zero, le_of_suc-le-suc, arith, length-set, length-drop}
use Rattle.std.proofs.lemmas.List.{length-map}
use Rattle.std.specs.List.{list_any}
use Rattle.store.specs.Lists.{any}
use Rattle.rules.specs.declared.Step.{Step as StepValue}
use Rattle.rules.specs.Placing.{step_in, steps_from}
use Rattle.rules.specs.Steps.{Step, same_key}

-- From a place on the slice has these steps.
pub record StepsFrom (xs : List StepValue) (start : ℕ) (ts : List Step) : Type 0 where
  pub inside : start ≤ length xs
  pub steps : drop start (map step_in xs) ≡ ts

-- In 1,024 places there is room for k more in front, if those that stand leave it.
pub places_left : (from : List StepValue) {now : List StepValue} {start k : ℕ} {ts : List Step}
    → StepsFrom now start ts → length now ≡ length from → 1024 ≤ length from → k + length ts ≤ 1024 → k ≤ start
places_left from {now} {start} f same room few =
    let all = length-map now step_in in
    let others = length-drop start (map step_in now) in
    omega (arith, f.inside, ap length f.steps)

-- ## One more in front

in_front : (xs : List StepValue) (i : ℕ) (x : StepValue) → i < length xs
    → drop i (map step_in (set xs i x)) ≡ step_in x ∷ drop (suc i) (map step_in xs)
in_front [] i x h = absurd (not-suc-le-zero h)
in_front (y ∷ xs) zero x h = refl
in_front (y ∷ xs) (suc i) x h = in_front xs i x (le_of_suc-le-suc h)

pub step_pushed : (before : List StepValue) {start : ℕ} (x : StepValue) → 1 ≤ start → start ≤ length before
    → StepsFrom (set before (start - 1) x) (start - 1) (step_in x ∷ drop start (map step_in before))
step_pushed before {start} x low inside =
    let next : start ≡ suc (start - 1) = omega arith in
    let long : length (set before (start - 1) x) ≡ length before = length-set before (start - 1) x in
    let front = in_front before (start - 1) x (omega arith) in
    record {
      inside = omega arith;
      steps = front ∙ ap (λ (k : ℕ). step_in x ∷ drop k (map step_in before)) (sym next);
    }

-- ## A key that is looked for

any_in : (key : ℕ) (xs : List StepValue)
    → list_any (λ x. same_key key (step_in x)) xs ≡ any (same_key key) (map step_in xs)
any_in key [] = refl
any_in key (x ∷ xs) = ap (λ (b : Bool). same_key key (step_in x) || b) (any_in key xs)

pub any_from : (key : ℕ) (xs : List StepValue) (start : ℕ)
    → list_any (λ x. same_key key (step_in x)) (take (length xs - start) (drop start xs))
    ≡ any (same_key key) (drop start (map step_in xs))
any_from key xs start =
    any_in key (take (length xs - start) (drop start xs)) ∙ ap (any (same_key key)) (steps_from xs start)
