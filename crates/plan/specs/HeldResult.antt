-- Steps that end at a held shape have made none: the model is what it was.
-- Assumes nothing.
use Rattle.std.specs.Prelude.{List, [], ◌∷◌, ◌≢◌, ◌≡◌, refl, ℕ, eqb}
use Rattle.std.proofs.Common.{inl, inr, sym, ap, ◌∙◌, eqb-true}
use Rattle.store.specs.Model.{used, Model, no_shape, free_shape, free_table, shape_at, put_shape, put_table}
use Rattle.store.specs.PlaceLaws.{at_put_same}
use Rattle.store.specs.ListLaws.{Decided, either}
use Rattle.store.specs.declared.Shape.{Shape}
use Rattle.store.specs.declared.Entry.{Entry}
use Rattle.rules.specs.declared.Refusal.TheVariants.{ShapesFull, TablesFull}
use Rattle.rules.specs.Refusals.{ok, ◌>>=◌, place}
use Rattle.rules.specs.Shapes.{entries, unique_shape}
use Rattle.rules.proofs.Settled.{same_given}
use Rattle.rules.specs.Steps.{Step, Placed, copy_to, step, steps, fresh, limited}
use Rattle.theorems.specs.Facts.{Sound}
use Rattle.theorems.specs.Taken.{Bound, bind_passed, place-passed}
use Rattle.theorems.specs.Stepped.{step_took}
use Rattle.plan.specs.Plan.{edge_for, child_of}
use Rattle.plan.specs.Agree.{agree_given}
use Rattle.plan.specs.NewChild.{Fresh}
use Rattle.plan.specs.NewStep.{new_step, fresh_new}
use Rattle.plan.specs.PlanRight.{LegalSteps, live_step}

abbrev holds_at : Placed → ℕ
holds_at y = (shape_at y.0 y.1).holds

-- A step with no live edge makes a fresh shape.
made-fresh : (m : Model) → Sound m → (n : ℕ) (t : Step) (ts : List Step) → LegalSteps (t ∷ ts) m n
    → child_of (edge_for m n t) ≡ 0 → (y : Placed) → step m n t ≡ ok y → Fresh y.0 y.1
made-fresh m sound n t ts legal new y gave =
    (agree_given (new_step m sound n t legal.0 new) gave).1.fresh

-- Every step from a fresh shape makes one.
unheld-after : (ts : List Step) (m : Model) → Sound m → (n : ℕ) → LegalSteps ts m n → Fresh m n
    → (y : Placed) → steps ts m n ≡ ok y → holds_at y ≡ 0
unfolding steps
unheld-after [] m sound n legal fresh y e = ap holds_at (sym (same_given e)) ∙ fresh.unheld
unheld-after (t ∷ ts) m sound n legal fresh y e =
    let b = bind_passed (step m n t) (λ z. steps ts z.0 z.1) y e in
    let z = b.result in
    let took = step_took m sound n t legal.0 z b.gave in
    let next = made-fresh m sound n t ts legal (fresh_new m n fresh t) z b.gave in
    unheld-after ts z.0 took.keeps.is_sound z.1 (legal.1 z b.gave) next y b.below

held-unchanged : (ts : List Step) (m : Model) → Sound m → (n : ℕ) → LegalSteps ts m n
    → (y : Placed) → steps ts m n ≡ ok y → holds_at y ≢ 0 → y.0 ≡ m
unfolding steps
held-unchanged [] m sound n legal y e held = ap (λ (z : Placed). z.0) (sym (same_given e))
held-unchanged (t ∷ ts) m sound n legal y e held = go (either (eqb c 0)) (held-unchanged ts m sound c)
  where
    c : ℕ
    c = child_of (edge_for m n t)

    go : Decided (eqb c 0)
        → (LegalSteps ts m c → (y : Placed) → steps ts m c ≡ ok y → holds_at y ≢ 0 → y.0 ≡ m)
        → y.0 ≡ m
    go (inl new) rest =
        let b = bind_passed (step m n t) (λ z. steps ts z.0 z.1) y e in
        let z = b.result in
        let took = step_took m sound n t legal.0 z b.gave in
        let fresh = made-fresh m sound n t ts legal (eqb-true c 0 new) z b.gave in
        absurd (held
        (unheld-after ts z.0 took.keeps.is_sound z.1 (legal.1 z b.gave) fresh y b.below))
    go (inr live) rest =
        let there = live_step m n t live in
        rest (legal.1 (m, c) there) y (rw there at e) held

-- ## After the conversion to unique

-- The new shape stands where its place was free.
pub unheld-fresh : (m : Model) (shape : ℕ → Shape) (es : List Entry) → ((t : ℕ) → (shape t).holds ≡ 0)
    → (y : Placed) → fresh m shape es ≡ ok y → holds_at y ≡ 0
unfolding fresh shape_at put_shape put_table
unheld-fresh m shape es unheld y e =
    let a = bind_passed (place ShapesFull free_shape m.shapes) _ y e in
    let b = bind_passed (copy_to m es) _ y a.below in
    let d = bind_passed (place TablesFull free_table m.tables) _ b.result b.gave in
    let n = a.result in
    let t = d.result in
    let p = place-passed ShapesFull free_shape no_shape m.shapes n a.gave in
    let same : (put_shape (put_table m t (used es)) n (shape t), n) ≡ y = cc (d.below, b.below) in
    let stands = at_put_same m.shapes n (shape t) no_shape p.low p.high in
    rw (← same) (ap (λ (s : Shape). s.holds) stands ∙ unheld t)

pub held-limited : (ts : List Step) (m : Model) → Sound m → (n : ℕ) → LegalSteps ts m n
    → (y : Placed) → (steps ts m n >>= limited) ≡ ok y → holds_at y ≢ 0 → y.0 ≡ m
unfolding limited
held-limited ts m sound n legal y e held = go (either (eqb s.transitions 1024)) b.below
  where
    b : Bound (steps ts m n) limited y
    b = bind_passed (steps ts m n) limited y e

    z : Placed
    z = b.result

    s : Shape
    s = shape_at z.0 z.1

    go : Decided (eqb s.transitions 1024) → limited z ≡ ok y → y.0 ≡ m
    go (inl q) gave =
        let shape = unique_shape 0 s.properties s.prototype in
        absurd (held (unheld-fresh z.0 shape (entries z.0 s) (λ t. refl) y (rw q at gave)))
    go (inr q) gave =
        held-unchanged ts m sound n legal y (b.gave ∙ rw q at gave) held
