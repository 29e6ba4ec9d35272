-- What the code of the plan answers.
-- Assumes nothing.
use Rattle.std.specs.Prelude.{Bool, false, List, map, ◌≡◌, refl, ℕ, ◌+◌, ◌-◌, eqb, length, take, drop, Err, Ok, Result}
use Rattle.std.proofs.Common.{sym, ◌∙◌}
use Rattle.std.proofs.Math.Path.{ap}
use Rattle.std.proofs.lemmas.List.{length-map}
use Rattle.std.proofs.Math.Seq.{drop-length}
use Rattle.store.specs.Model.{Model, shape_at}
use Rattle.rules.specs.declared.Refusal.{Refusal}
use Rattle.rules.specs.declared.Step.{Step as StepValue}
use Rattle.rules.specs.Placing.{step_in, steps_from}
use Rattle.rules.specs.Refusals.{Got, ok, refused}
use Rattle.rules.specs.Steps.{Step}
use Rattle.plan.specs.declared.Way.{Way}
use Rattle.plan.specs.declared.Room.{Room}
use Rattle.plan.specs.Plan.{follow, room_at, first_gives, spend_all, plan, converted, plan_limited}

abbrev pub spending_of : Got Room → Result Room Refusal
spending_of (ok r) = Ok r
spending_of (refused x) = Err x

-- With the way along live edges, so that the caller need not follow it again.
abbrev pub planned_of : Got Room → Way → Result Way Refusal
planned_of (ok r) w = Ok w
planned_of (refused x) w = Err x

-- The plan of steps of which the first has no live edge.
abbrev pub new_steps : Model → (place : ℕ) → List Step → Got Room
new_steps m n ts = spend_all ts (room_at m n (first_gives m n ts))

-- An answer says what was given.
abbrev got_of : Result Room Refusal → Got Room
got_of (Ok r) = ok r
got_of (Err x) = refused x

pub given_by : (g : Got Room) {x : Result Room Refusal} → x ≡ spending_of g → g ≡ got_of x
given_by g e = same g ∙ ap got_of (sym e)
  where
    same : (g : Got Room) → g ≡ got_of (spending_of g)
    same (ok r) = refl
    same (refused x) = refl

-- ## The plan

-- What was answered on the way.
module _ (steps : List StepValue) (m : Model) (n : ℕ) {way : Way}
    (followed : way ≡ follow (map step_in steps) m n) where
  abbrev ts : List Step
  ts = map step_in steps

  abbrev Answers : Result Way Refusal → Type 0
  Answers r = r ≡ planned_of (plan_limited m n ts) (follow ts m n)

  abbrev steps-left : List StepValue
  steps-left = take (length steps - way.found) (drop way.found steps)

  module _ {x : Result Room Refusal} (spent : x ≡ spending_of (new_steps m way.place (map step_in steps-left))) where
    plan_gave : plan m n ts ≡ got_of x
    unfolding plan
    plan_gave =
        rw (← followed, ← steps_from steps way.found)
        (given_by (new_steps m way.place (map step_in steps-left)) spent)

    pub plan_refused : {r : Refusal} → x ≡ Err r → Answers (Err r)
    unfolding plan_limited
    plan_refused told = rw (plan_gave, told)

    module _ {limit : Bool} (tested : limit ≡ eqb ((shape_at m n).transitions + length steps) 1024)
        {room : Room} (left : x ≡ Ok room)
        {y : Result Room Refusal} (last : y ≡ spending_of (converted limit room)) where
      gave : plan_limited m n ts ≡ got_of y
      unfolding plan_limited
      gave = rw (plan_gave, left, length-map steps step_in, ← tested) (given_by (converted limit room) last)

      pub conversion_refused : {r : Refusal} → y ≡ Err r → Answers (Err r)
      conversion_refused told = rw (gave, told)

      pub plan-passes : {r : Room} → y ≡ Ok r → Answers (Ok way)
      plan-passes told = rw (gave, told, ← followed)

  -- All steps go along live edges, and nothing is converted: nothing is made.
  pub nothing_new : way.found ≡ length steps → {limit : Bool}
      → limit ≡ eqb ((shape_at m n).transitions + length steps) 1024 → limit ≡ false → Answers (Ok way)
  nothing_new found tested none =
      let all : way.found ≡ length ts = found ∙ sym (length-map steps step_in) in
      plan-passes {x = Ok (room_at m way.place 0)} (rw (steps_from steps way.found, all, drop-length ts))
      tested refl {y = Ok (room_at m way.place 0)} (rw none) refl
