-- The plan is right: it says a refusal exactly where the steps meet it, and none where they are taken.
-- Assumes nothing.
use Rattle.std.specs.Prelude.{Bool, true, false, ◌↔◌, ◌≡◌, refl, eqb}
use Rattle.std.proofs.Common.{true≢false, inl, inr, arith, eqb-true}
use mathlib.Core.List.{List, [], ◌∷◌}
use Rattle.std.proofs.Math.Option.{Option, none, some}
use Prim.Native.Nat.{ℕ, ◌+◌}
use Rattle.std.proofs.Math.ListN.{length}
use Rattle.std.specs.Prelude.{if◌then◌else◌}
use Rattle.store.specs.Model.{used, free, Model, no_shape, free_shape, free_table, shape_at, put_table}
use Rattle.store.specs.ListLaws.{Decided, either}
use Rattle.store.specs.declared.Shape.{Shape}
use Rattle.store.specs.declared.Edge.{Edge}
use Rattle.rules.specs.declared.Refusal.{Refusal}
use Rattle.rules.specs.declared.Refusal.TheVariants.{ShapesFull, TablesFull}
use Rattle.rules.specs.Shapes.{entries, unique_shape}
use Rattle.rules.specs.Refusals.{ok, refused, ◌>>=◌}
use Rattle.rules.specs.Steps.{Step, Placed, along, step, steps, fresh, limited}
use Rattle.theorems.specs.Facts.{Sound}
use Rattle.theorems.specs.Child.{Legal}
use Rattle.theorems.specs.Stepped.{step_took}
use Rattle.plan.specs.declared.Room.{Room}
use Rattle.plan.specs.Plan.{edge_for, child_of, count, room_at, first_gives, spend_all, plan}
use Rattle.plan.specs.Plan.{converted, plan_limited}
use Rattle.plan.specs.Agree.{Agree, given, same_refusal, both_given, agree_bind, agree_then, agree-map}
use Rattle.plan.specs.Agree.{agree-place}
use Rattle.plan.specs.NewChild.{Fresh}
use Rattle.plan.specs.NewStep.{new_step, fresh_new, fresh_gives}

-- Each step may be taken from the shape that the steps before it lead to.
abbrev pub LegalSteps : List Step → Model → ℕ → Type 0
LegalSteps [] m n = Unit {0}
LegalSteps (t ∷ ts) m n = Legal m n t × ((y : Placed) → step m n t ≡ ok y → LegalSteps ts y.0 y.1)

-- The steps end at a shape with N transitions, and r is what is free there.
pub record Ended (N : ℕ) (y : Placed) (r : Room) : Type 0 where
  pub transitions : (shape_at y.0 y.1).transitions ≡ N
  pub shapes : count free_shape y.0.shapes ≡ r.shapes
  pub tables : count free_table y.0.tables ≡ r.tables

-- ## New steps

-- The first of the steps has no live edge.
abbrev New : Model → ℕ → List Step → Type 0
New m n [] = Unit {0}
New m n (t ∷ ts) = child_of (edge_for m n t) ≡ 0

fresh-first : (m : Model) (n : ℕ) → Fresh m n → (ts : List Step) → New m n ts × (first_gives m n ts ≡ 0)
fresh-first m n f [] = (tt, refl)
fresh-first m n f (t ∷ ts) = (fresh_new m n f t, fresh_gives m n f t)

-- Every step after a new one begins at a fresh place.
new_steps : (N : ℕ) (ts : List Step) (m : Model) → Sound m → (n : ℕ) → LegalSteps ts m n → New m n ts
    → (shape_at m n).transitions + length ts ≡ N
    → Agree (Ended N) (steps ts m n) (spend_all ts (room_at m n (first_gives m n ts)))
unfolding steps room_at
new_steps N [] m sound n legal new total =
    let ends : (shape_at m n).transitions ≡ N = omega arith in
    given record { transitions = ends; shapes = refl; tables = refl }
new_steps N (t ∷ ts) m sound n legal new total =
    agree_bind (new_step m sound n t legal.0 new) (λ y r gave made.
    let took = step_took m sound n t legal.0 y gave in
    let more = took.one_more in
    let (new, nothing) = fresh-first y.0 y.1 made.fresh ts in
    let rest = new_steps N ts y.0 took.keeps.is_sound y.1 (legal.1 y gave) new (omega arith) in
    rw made.left (rw nothing at rest))

-- ## Along live edges first

pub live_step : (m : Model) (n : ℕ) (t : Step) → eqb (child_of (edge_for m n t)) 0 ≡ false
    → step m n t ≡ ok (m, child_of (edge_for m n t))
unfolding step
live_step m n t live = go (edge_for m n t) live
  where
    go : (o : Option Edge) → eqb (child_of o) 0 ≡ false → along o m n t ≡ ok (m, child_of o)
    go none live = absurd (true≢false live)
    go (some e) live = rw live

module _ (m : Model) (sound : Sound m) where
  plan-ends : (N : ℕ) (ts : List Step) (n : ℕ) → LegalSteps ts m n → (shape_at m n).transitions + length ts ≡ N
      → Agree (Ended N) (steps ts m n) (plan m n ts)
  unfolding plan steps room_at
  plan-ends N [] n legal total = new_steps N [] m sound n legal tt total
  plan-ends N (t ∷ ts) n legal total = go (either (eqb c 0)) (plan-ends N ts c)
    where
      c : ℕ
      c = child_of (edge_for m n t)

      go : Decided (eqb c 0)
          → (LegalSteps ts m c → (shape_at m c).transitions + length ts ≡ N
          → Agree (Ended N) (steps ts m c) (plan m c ts))
          → Agree (Ended N) (steps (t ∷ ts) m n) (plan m n (t ∷ ts))
      go (inl new) rest = rw new (new_steps N (t ∷ ts) m sound n legal (eqb-true c 0 new) total)
      go (inr live) rest =
          let there = live_step m n t live in
          let more = (step_took m sound n t legal.0 (m, c) there).one_more in
          rw (live, there) (rest (legal.1 (m, c) there) (omega arith))

-- ## Conversion to unique

-- A new shape with a table of its own, and the two tests.
limited_agrees : (N : ℕ) (y : Placed) (r : Room) → Ended N y r
    → Agree (λ (x : Placed) (q : Room). Unit {0}) (limited y) (converted (eqb N 1024) r)
unfolding limited fresh
limited_agrees N (m, n) r e = rw e.transitions (go (eqb N 1024))
  where
    s : Shape
    s = shape_at m n

    go : (b : Bool)
        → Agree (λ (x : Placed) (q : Room). Unit {0})
        (if b then fresh m (unique_shape 0 s.properties s.prototype) (entries m s) else ok (m, n))
        (converted b r)
    go true =
        agree_then (agree-place ShapesFull free_shape no_shape m.shapes e.shapes) (λ c a x.
        agree_then {R = λ y b. Unit {0}} (agree-map (λ p. (put_table m p (used (entries m s)), p))
        (agree-place TablesFull free_table free m.tables e.tables) (λ p b y. tt)) (λ y b z.
        given tt))
    go false = given tt

-- ## The theorem

module _ (m : Model) (sound : Sound m) (n : ℕ) (ts : List Step) (legal : LegalSteps ts m n) where
  plan_agrees : Agree (Ended ((shape_at m n).transitions + length ts)) (steps ts m n) (plan m n ts)
  plan_agrees = plan-ends m sound ((shape_at m n).transitions + length ts) ts n legal refl

  limited_plan_agrees :
      Agree (λ (y : Placed) (r : Room). Unit {0}) (steps ts m n >>= limited) (plan_limited m n ts)
  unfolding plan_limited
  limited_plan_agrees =
      let N = (shape_at m n).transitions + length ts in
      agree_bind plan_agrees (λ y r gave ended. limited_agrees N y r ended)

  -- The plan says a refusal exactly where the steps are refused by it,
  pub plan_refuses : (r : Refusal) → (plan m n ts ≡ refused r) ↔ (steps ts m n ≡ refused r)
  plan_refuses = same_refusal plan_agrees

  -- and none exactly where they are taken;
  pub plan-passes : ((r : Room) × (plan m n ts ≡ ok r)) ↔ ((y : Placed) × (steps ts m n ≡ ok y))
  plan-passes = both_given plan_agrees

  -- the same with the conversion to unique after them.
  pub limited_plan_refuses : (r : Refusal)
      → (plan_limited m n ts ≡ refused r) ↔ ((steps ts m n >>= limited) ≡ refused r)
  limited_plan_refuses = same_refusal limited_plan_agrees

  pub limited-plan-passes :
      ((r : Room) × (plan_limited m n ts ≡ ok r)) ↔ ((y : Placed) × ((steps ts m n >>= limited) ≡ ok y))
  limited-plan-passes = both_given limited_plan_agrees
