-- Steps that were planned and then taken, and the limit.
-- Assumes nothing.
use Rattle.std.specs.Prelude.{List, [], ◌∷◌, map, ◌≢◌, ◌≡◌, refl, ℕ, ◌-◌, length, take, drop, Err, Ok, Result}
use Rattle.std.proofs.Common.{sym, ◌∙◌, ap, ap₂, eq-eqb, ne_eqb}
use Rattle.store.specs.Model.{Model, shape_at}
use Rattle.store.specs.Layout.{parse}
use Rattle.store.specs.Image.{Formed, Place, Becomes, unchanged, and_then}
use Rattle.store.specs.declared.Shape.{Shape}
use Rattle.rules.specs.declared.Refusal.{Refusal}
use Rattle.rules.specs.Shapes.{entries, unique_shape}
use Rattle.rules.specs.Refusals.{Got, ok, refused, ◌>>=◌}
use Rattle.rules.specs.Steps.{Step, Placed, step, steps, fresh, limited, then_limit}
use Rattle.rules.specs.declared.Step.{Step as StepValue}
use Rattle.rules.specs.Placing.{step_in, steps_from, Passes, Places, placed}
use Rattle.rules.proofs.Settled.{same_given}
use Rattle.rules.specs.InUse.{shared_used}
use Rattle.theorems.specs.Facts.{Used, Sound, used_place_inside}
use Rattle.theorems.specs.Taken.{Bound, bind_passed}
use Rattle.theorems.specs.Child.{Legal}
use Rattle.theorems.specs.Stepped.{step_took}
use Rattle.theorems.specs.Made.{SharedAt}
use Rattle.plan.specs.declared.Way.{Way}
use Rattle.plan.specs.declared.Room.{Room}
use Rattle.plan.specs.Plan.{follow, plan_limited}
use Rattle.plan.specs.Answers.{planned_of}
use Rattle.plan.specs.LiveSteps.{steps-left, legal_left}
use Rattle.plan.specs.PlanRight.{LegalSteps, limited_plan_refuses, limited-plan-passes}

-- ## A shared shape

module _ (m : Model) (sound : Sound m) (n : ℕ) (is_shared : SharedAt m n) where
  pub its_used : Used m n
  its_used = shared_used (shape_at m n) is_shared

  pub its-place : Place (length m.shapes) n
  its-place = used_place_inside m n its_used

-- ## The limit

module _ (ws : List ℕ) (n : ℕ) {s : Shape} (read : s ≡ shape_at (parse ws) n) where
  pub limit_reached : s.transitions ≡ 1024 → (after : List ℕ) (r : Result ℕ Refusal)
      → let x = shape_at (parse ws) n in
      Places ws after (fresh (parse ws) (unique_shape 0 x.properties x.prototype) (entries (parse ws) x)) r
      → Places ws after (limited (parse ws, n)) r
  unfolding limited
  limit_reached full after r made = rw (eq-eqb (shape_at (parse ws) n).transitions 1024 (rw read at full)) made

  pub below_the_limit : Formed ws → s.transitions ≢ 1024 → Places ws ws (limited (parse ws, n)) (Ok n)
  unfolding limited
  below_the_limit formed few =
      rw (ne_eqb (shape_at (parse ws) n).transitions 1024 (rw read at few)) (unchanged formed, refl)

-- ## Steps that are taken

-- They leave a sound model and end at a shared shape.
steps-sound : (ts : List Step) (m : Model) → Sound m → (n : ℕ) → SharedAt m n → LegalSteps ts m n
    → (y : Placed) → steps ts m n ≡ ok y → Sound y.0 × SharedAt y.0 y.1
unfolding steps
steps-sound [] m sound n is_shared legal y e = rw (← same_given e) (sound, is_shared)
steps-sound (t ∷ ts) m sound n is_shared legal y e =
    let b = bind_passed (step m n t) _ y e in
    let x = b.result in
    let took = step_took m sound n t legal.0 x b.gave in
    steps-sound ts x.0 took.keeps.is_sound x.1 took.is_shared (legal.1 x b.gave) y b.below

pub one_step_is : (m : Model) (n : ℕ) (t : Step) → steps (t ∷ []) m n ≡ step m n t
unfolding steps
one_step_is m n t = go (step m n t)
  where
    go : (g : Got Placed) → (g >>= λ y. ok (y.0, y.1)) ≡ g
    go (ok y) = refl
    go (refused r) = refl

-- A list of one step.
module _ (m : Model) (n : ℕ) (t : Step) where
  pub one_legal : Legal m n t → LegalSteps (t ∷ []) m n
  one_legal legal = (legal, λ y e. tt)

  pub one_is : then_limit (steps (t ∷ []) m n) ≡ then_limit (step m n t)
  one_is = ap then_limit (one_step_is m n t)

-- ## A plan, and what it lets pass

refused_plan : (g : Got Room) (w : Way) {x : Refusal} → planned_of g w ≡ Err x → g ≡ refused x
refused_plan (ok r) w e = absurd (cc)
refused_plan (refused y) w e = cc

passed-plan : (g : Got Room) (w : Way) {v : Way} → planned_of g w ≡ Ok v → (v ≡ w) × Passes g
passed-plan (ok r) w e = (cc, (r, refl))
passed-plan (refused y) w e = absurd (cc)

-- The plan lets the steps in `list` pass, and w is how far they get along live edges.
pub record Planned (ws : List ℕ) (from : ℕ) (list : List StepValue) (w : Way) : Type 0 where
  sound : Sound (parse ws)
  legal : LegalSteps (map step_in list) (parse ws) from
  its : w ≡ follow (map step_in list) (parse ws) from
  passes : Passes (then_limit (steps (map step_in list) (parse ws) from))

module _ (ws : List ℕ) (sound : Sound (parse ws)) (from : ℕ) (list : List StepValue)
    (legal : LegalSteps (map step_in list) (parse ws) from) where
  abbrev Plans : Result Way Refusal → Type 0
  Plans p =
      let ts = map step_in list in
      p ≡ planned_of (plan_limited (parse ws) from ts) (follow ts (parse ws) from)

  pub plan_refused : {p : Result Way Refusal} → Plans p → {x : Refusal} → p ≡ Err x
      → Places ws ws (then_limit (steps (map step_in list) (parse ws) from)) (Err x)
  plan_refused plan {x} e =
      let m = parse ws in
      let ts = map step_in list in
      let none = refused_plan (plan_limited m from ts) (follow ts m from) (sym plan ∙ e) in
      rw ((limited_plan_refuses m sound from ts legal x).0 none) (refl, refl)

  pub planned : {p : Result Way Refusal} → Plans p → {w : Way} → p ≡ Ok w → Planned ws from list w
  planned plan e =
      let m = parse ws in
      let ts = map step_in list in
      let (its, passes) = passed-plan (plan_limited m from ts) (follow ts m from) (sym plan ∙ e) in
      record {
        sound = sound;
        legal = legal;
        its = its;
        passes = (limited-plan-passes m sound from ts legal).0 passes;
      }

module _ {ws : List ℕ} {from : ℕ} {list : List StepValue} {w : Way} (h : Planned ws from list w) where
  abbrev m : Model
  m = parse ws

  abbrev ts : List Step
  ts = map step_in list

  -- The steps that are left after the live edges.
  abbrev left : List Step
  left = map step_in (take (length list - w.found) (drop w.found list))

  same_steps : left ≡ drop (follow ts m from).found ts
  same_steps = rw h.its (steps_from list (follow ts m from).found)

  pub left_legal : LegalSteps left m w.place
  left_legal = rw (same_steps, h.its) (legal_left ts m from h.legal)

  taken : Bound (steps ts m from) limited h.passes.0
  taken = bind_passed (steps ts m from) limited h.passes.0 h.passes.1

  gave_left : steps left m w.place ≡ ok taken.result
  gave_left =
      let there = ap (λ (w : Way). w.place) h.its in
      ap₂ (λ (us : List Step) (k : ℕ). steps us m k) same_steps there
      ∙ sym (steps-left ts m from)
      ∙ taken.gave

  pub left_pass : Passes (steps left m w.place)
  left_pass = (taken.result, gave_left)

  module _ (between : List ℕ) (n : ℕ) (took : Places ws between (steps left m w.place) (Ok n)) where
    reached : Becomes ws between taken.result.0 × (n ≡ taken.result.1)
    reached = placed gave_left took

    pub limit_ready : SharedAt m from → Formed between × (Sound (parse between) × SharedAt (parse between) n)
    limit_ready is_shared =
        let after = steps-sound ts m h.sound from is_shared h.legal taken.result taken.gave in
        (reached.0.formed, rw (reached.0.parsed, reached.1) after)

    pub limit_done : (after : List ℕ) (r : Result ℕ Refusal) → Places between after (limited (parse between, n)) r
        → Places ws after (then_limit (steps ts m from)) r
    limit_done after r p =
        let (became, at) = rw (reached.0.parsed, reached.1, taken.below) at p in
        rw h.passes.1 (and_then reached.0 became, at)
