-- Several steps, taken one after the other.
-- Assumes nothing.
use Rattle.std.specs.Prelude.{List, ◌∷◌, map, ◌≡◌, ℕ, suc, ◌+◌, ◌≤◌, ◌<◌, length, drop, get_or, Ok}
use Rattle.std.proofs.Math.Path.{refl}
use Rattle.std.proofs.Common.{sym, ◌∙◌, add-one, drop_of_length-le}
use Rattle.std.proofs.lemmas.List.{length-map}
use Rattle.store.specs.Layout.{parse}
use Rattle.store.specs.Image.{Formed, Becomes, unchanged, and_then}
use Rattle.rules.specs.declared.Step.{Step as StepValue}
use Rattle.rules.specs.Placing.{step_in, next_step, Passes, Places, places, placed}
use Rattle.rules.specs.Steps.{Step, step, steps}
use Rattle.theorems.specs.Facts.{Sound}
use Rattle.theorems.specs.Taken.{bind_passed}
use Rattle.theorems.specs.Stepped.{step_took}
use Rattle.plan.specs.PlanRight.{LegalSteps}
use Rattle.shared_step.specs.Growing.{Ready}

-- A loop over the steps in xs, at the i-th, has reached the shape at p.
pub record Walking (before : List ℕ) (n : ℕ) (xs : List StepValue) (i : ℕ) (now : List ℕ) (p : ℕ) : Type 0 where
  pub so_far : Becomes before now (parse now)
  pub sound : Sound (parse now)
  pub legal : LegalSteps (drop i (map step_in xs)) (parse now) p
  pub rest : steps (drop i (map step_in xs)) (parse now) p ≡ steps (map step_in xs) (parse before) n

module _ {before : List ℕ} {n : ℕ} {xs : List StepValue} where
  pub walk_start : Formed before → Sound (parse before)
      → LegalSteps (map step_in xs) (parse before) n → Walking before n xs 0 before n
  walk_start f sound legal = record { so_far = unchanged f; sound = sound; legal = legal; rest = refl }

  module _ {i : ℕ} {now : List ℕ} {p : ℕ} (w : Walking before n xs i now p) where
    pub walk_end : length xs ≤ i → Places before now (steps (map step_in xs) (parse before) n) (Ok p)
    unfolding steps
    walk_end past =
        let all : length (map step_in xs) ≤ i = rw (length-map xs step_in) past in
        places (sym (rw (drop_of_length-le (map step_in xs) all) at w.rest)) w.so_far refl

    module _ (passes : Passes (steps (map step_in xs) (parse before) n)) (d : StepValue) (more : i < length xs) where
      abbrev this : Step
      this = step_in (get_or xs i d)

      this_and_more : drop i (map step_in xs) ≡ this ∷ drop (suc i) (map step_in xs)
      this_and_more = next_step xs i d more

      all_legal : LegalSteps (this ∷ drop (suc i) (map step_in xs)) (parse now) p
      all_legal = rw this_and_more at w.legal

      this_passes : Passes (step (parse now) p this)
      unfolding steps
      this_passes =
          let (y, passed) = passes in
          let b = bind_passed (step (parse now) p this) _ y (rw this_and_more at w.rest ∙ passed) in
          (b.result, b.gave)

      -- The next step may be taken,
      pub walk_ready : Ready now p this (step (parse now) p this)
      walk_ready = (w.so_far.formed, (w.sound, (all_legal.0, this_passes)))

      -- and then there is one less.
      pub walk_on : {new : List ℕ} {q : ℕ} → Places now new (step (parse now) p this) (Ok q)
          → Walking before n xs (i + 1) new q
      unfolding steps
      walk_on taken =
          let (y, gave) = this_passes in
          let (became, its) = placed gave taken in
          let took = step_took (parse now) w.sound p this all_legal.0 y gave in
          let rest = rw (this_and_more, gave) at w.rest in
          rw (add-one i, its)
          record {
            so_far = rw became.parsed (and_then w.so_far became);
            sound = rw became.parsed took.keeps.is_sound;
            legal = rw became.parsed (all_legal.1 y gave);
            rest = rw became.parsed rest;
          }
