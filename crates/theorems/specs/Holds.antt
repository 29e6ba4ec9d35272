-- A shape with other holds or counters, within their limits: the model stays sound and every shape is kept.
-- Assumes nothing.
use Rattle.std.specs.Prelude.{true, ◌≢◌, ◌≡◌, ℕ, ◌+◌, ◌-◌, ◌≤◌, leb}
use Rattle.std.proofs.Math.Logic.{inl}
use Rattle.std.proofs.Math.Path.{refl}
use Rattle.std.proofs.Common.{sym, ◌∙◌, ap, arith, leb-false}
use Rattle.store.specs.Model.{Model, no_shape, free_shape, shape_at, table_at, edge_at, put_shape}
use Rattle.store.specs.PlaceLaws.{length-put, at-inside, AfterPut, here, elsewhere, after-put}
use Rattle.store.specs.ListLaws.{not-both}
use Rattle.store.specs.declared.Shape.{Shape}
use Rattle.rules.specs.declared.ChangeTransitionAction.{ChangeTransitionAction}
use Rattle.rules.specs.declared.Refusal.TheVariants.{HoldsFull}
use Rattle.rules.specs.Shapes.{with_holds}
use Rattle.rules.specs.Refusals.{ok}
use Rattle.rules.specs.Calls.{Answer, Given, grant, release_one}
use Rattle.rules.proofs.Settled.{guard_passed, same_given}
use Rattle.rules.specs.InUse.{shared_used}
use Rattle.theorems.specs.Facts.{Used, InLimits, Sound}
use Rattle.theorems.specs.Frame.{core, Change, Keeps, change_keeps, longer_same, previous_used}
use Rattle.theorems.specs.Frame.{same_edge, old-shape, same_user}

module _ (m : Model) (sound : Sound m) (n : ℕ) (u : Used m n) where
  -- What stands at each place after a shape in use is replaced.
  pub shape-put : (s : Shape) (k : ℕ) → AfterPut n k s (shape_at m k) (shape_at (put_shape m n s) k)
  unfolding shape_at put_shape
  shape-put s k =
      let inside = at-inside free_shape m.shapes n no_shape refl u in
      after-put m.shapes n s no_shape inside.0 inside.1 k

  module _ (s : Shape) (same : core s ≡ core (shape_at m n)) (limits : InLimits s) where
    same_core_lem : (k : ℕ) → core (shape_at (put_shape m n s) k) ≡ core (shape_at m k)
    same_core_lem k = go (shape-put s k)
      where
        go : AfterPut n k s (shape_at m k) (shape_at (put_shape m n s) k)
            → core (shape_at (put_shape m n s) k) ≡ core (shape_at m k)
        go (here e q) = ap core q ∙ same ∙ ap (λ (x : ℕ). core (shape_at m x)) (sym e)
        go (elsewhere e q) = ap core q

    its-limits : (k : ℕ) → Used m k → InLimits (shape_at (put_shape m n s) k)
    its-limits k v = go (shape-put s k)
      where
        go : AfterPut n k s (shape_at m k) (shape_at (put_shape m n s) k) → InLimits (shape_at (put_shape m n s) k)
        go (here e q) = rw q limits
        go (elsewhere e q) = rw q (sound.shapes k v).limits

    free_same : (k : ℕ) → free_shape (shape_at m k) ≡ true → shape_at (put_shape m n s) k ≡ shape_at m k
    free_same k f = go (shape-put s k)
      where
        go : AfterPut n k s (shape_at m k) (shape_at (put_shape m n s) k)
            → shape_at (put_shape m n s) k ≡ shape_at m k
        go (here e q) = not-both (rw e at f) u
        go (elsewhere e q) = q

    core-change : Change m (put_shape m n s) (Used m)
    unfolding put_shape table_at edge_at
    core-change =
        record {
          same_limits = simp length-put;
          staying = λ k v. record {
            was_used = v;
            previous = previous_used m (put_shape m n s) sound k v;
            same_core = same_core_lem k;
            limits = its-limits k v;
            longer = longer_same (table_at m (shape_at m k).table);
            unique_table = λ r. refl;
            edges = λ e h. refl;
          };
          shapes = λ k. old-shape m (put_shape m n s) sound k (free_same k);
          tables = λ t es q. inl q;
          users = λ t v. same_user m (put_shape m n s) sound (λ k w. same_core_lem k) t v;
          edges = λ e. same_edge m (put_shape m n s) sound (λ k h. shared_used (shape_at m k) h) e refl;
        }

    pub core-put : Keeps m (put_shape m n s) (Used m)
    core-put = change_keeps sound core-change

  -- Other holds, none where there are 1,024 transitions.
  holds-put : (h : ℕ) → h ≤ 65535 → ((shape_at m n).transitions ≡ 1024 → h ≡ 0)
      → Keeps m (put_shape m n (with_holds (shape_at m n) h)) (Used m)
  holds-put h l none =
      let old = (sound.shapes n u).limits in
      core-put (with_holds (shape_at m n) h) refl
      record {
        unheld = none;
        holds = l;
        property = old.property;
        prototype = old.prototype;
        unique = old.unique;
      }

  -- "Release takes one."
  pub release_keeps : Keeps m (release_one m n) (Used m)
  release_keeps =
      let old = (sound.shapes n u).limits in
      let few = old.holds in
      holds-put ((shape_at m n).holds - 1) (omega arith) (λ e. omega (arith, old.unheld e))

  -- "A call that returns a shape adds one hold to it"; a shape with 1,024 transitions is not returned.
  pub grant_keeps : (action : ChangeTransitionAction) (y : Model × Answer) → grant action (m, n) ≡ ok y
      → (shape_at m n).transitions ≢ 1024 → Keeps m y.0 (Used m)
  grant_keeps action y e few =
      let s = shape_at m n in
      let after = put_shape m n (with_holds s (s.holds + 1)) in
      let answer = Given n action s.transitions in
      let p = guard_passed HoldsFull (leb 65535 s.holds) (ok (after, answer)) y e in
      let low = leb-false 65535 s.holds p.0 in
      let same : after ≡ y.0 = ap (λ (x : Model × Answer). x.0) (same_given p.1) in
      rw same at (holds-put (s.holds + 1) (omega arith) (λ full. absurd (few full)))
