-- What a reply says of a call: whether it answers a shape, and what stands at the number of a unique that the
-- call has changed.
-- Assumes nothing.
use Rattle.std.specs.Prelude.{Bool, true, false, List, ◌⊎◌, ◌≢◌, ◌≡◌, ℕ, leb}
use Rattle.std.proofs.Common.{inl, inr, sym, ◌∙◌, ap}
use Rattle.std.proofs.Math.Path.{refl}
use Rattle.store.specs.Model.{Model, shape_at}
use Rattle.rules.specs.declared.ChangeTransitionAction.{ChangeTransitionAction}
use Rattle.rules.specs.declared.Refusal.TheVariants.{NoShape, HoldsFull}
use Rattle.rules.specs.Shapes.{unique}
use Rattle.rules.specs.Refusals.{Got, ok}
use Rattle.rules.proofs.Settled.{guard_passed, same_given, call_answered}
use Rattle.rules.specs.Steps.{Placed}
use Rattle.rules.specs.Calls.{Call, new_root, new_unique, insert_key, change_key, remove_key, change_prototype, hold}
use Rattle.rules.specs.Calls.{release, previous, sweep, Question, ask, Answer, Given, Freed, Done, Found}
use Rattle.rules.specs.Calls.{NotFound, Listed, Number, Reply, Yes, unheld, grant, perform, call}
use Rattle.theorems.specs.Facts.{Sound}
use Rattle.theorems.specs.Uniques.{Emptied, OldOne}
use Rattle.theorems.specs.Outcomes.{Outcome}
use Rattle.theorems.specs.Quiet.{granted_by}
use Rattle.theorems.specs.Questions.{question_told}
use Rattle.theorems.specs.Granting.{Granting, insert_grants, change-grants, removal-grants}
use Rattle.theorems.specs.Granting.{prototype_grants}
use Rattle.theorems.specs.CallsKeep.{changed_by}
use Rattle.theorems.specs.CallsDo.{Says, changes, performs}

-- ## Whether a shape is answered

-- The answer is a shape.
pub record Shows (a : Answer) : Type 0 where
  pub place : ℕ
  pub action : ChangeTransitionAction
  pub count : ℕ
  pub its : a ≡ Given place action count

pub shows? : (a : Answer) → Shows a ⊎ (granted_by a ≡ 0)
shows? (Given n action count) = inl record { place = n; action = action; count = count; its = refl }
shows? (Freed shapes tables) = inr refl
shows? Done = inr refl
shows? (Found slot attributes) = inr refl
shows? NotFound = inr refl
shows? (Listed count out) = inr refl
shows? (Number n) = inr refl

grant_shows : (x : Placed) (action : ChangeTransitionAction) (y : Model × Answer) → grant action x ≡ ok y
    → Shows y.1
grant_shows x action y e =
    let s = shape_at x.0 x.1 in
    let p = guard_passed HoldsFull (leb 65535 s.holds) _ y e in
    record {
      place = x.1;
      action = action;
      count = s.transitions;
      its = sym (ap (λ (z : Model × Answer). z.1) (same_given p.1));
    }

-- At the number k of a unique that a call has changed to the shape x: the answer itself, or a unique without
-- keys.
pub data LeftAt (j : Model) (k x : ℕ) : Type 0 where
  is_answer : k ≡ x → unique (shape_at j k) ≡ true → LeftAt j k x
  is_emptied : (prototype : ℕ) → Emptied j k prototype → LeftAt j k x

module _ (m : Model) (sound : Sound m) where
  pub says : (c : Call) (a : Answer) → (call m c).1 ≡ Yes a
      → (s : Shows a) → Says m c (call m c).0 s.place s.action s.count
  says c a e s = ap (λ (r : Reply). ((call m c).0, r)) (e ∙ ap Yes s.its)

  -- Release, sweep and questions answer none.
  module _ {j : Model} {x : ℕ} {given : ChangeTransitionAction} {count : ℕ} where
    no_shape_lem : {i : Model} (a : Answer) → granted_by a ≡ 0
        → ◌≡◌ {A = Got (Model × Answer)} (ok (i, a)) (ok (j, Given x given count)) → x ≡ 0
    no_shape_lem a none e = ap (λ (y : Model × Answer). granted_by y.1) (sym (same_given e)) ∙ none

    pub release_gives_none : (n : ℕ) → Says m (release n) j x given count → x ≡ 0
    unfolding perform
    release_gives_none n e =
        no_shape_lem Done refl (guard_passed NoShape (unheld m n) _ _ (performs m sound (release n) e)).1

    pub sweep_gives_none : Says m sweep j x given count → x ≡ 0
    unfolding perform
    sweep_gives_none e = no_shape_lem _ refl (performs m sound sweep e)

    pub question_gives_none : (n : ℕ) (q : Question) → Says m (ask n q) j x given count → x ≡ 0
    question_gives_none n q e = (question_told m n q _ (performs m sound (ask n q) e)).no_shape

  -- ## A unique that is changed

  left : {n : ℕ} {o : Outcome} {ks : List ℕ} {j : Model} {a : Answer} → Granting m n o ks (j, a)
      → (k : ℕ) → k ≡ n → unique (shape_at m k) ≡ true → LeftAt j k (granted_by a)
  left {n} {o} {j = j} {a} r k q u =
      let s = grant_shows r.result o.action (j, a) r.grants in
      let (its, old) = (changes (rw s.its at r)).of_unique (rw q at u) in
      rw (s.its, q) (go o.same s.place its old)
    where
      go : (same : Bool) (x : ℕ) → unique (shape_at j x) ≡ true → OldOne same j n o.left x → LeftAt j n x
      go true x its here = is_answer (sym here) (rw here at its)
      go false x its (_, left) = is_emptied o.left left

  pub left_at : (c : Call) (a : Answer) → (call m c).1 ≡ Yes a → (k : ℕ) → k ≢ 0 → k ≡ changed_by c
      → unique (shape_at m k) ≡ true → LeftAt (call m c).0 k (granted_by a)
  left_at (insert_key n x b) a e k place q u =
      left (insert_grants m sound n x b _ (call_answered m (insert_key n x b) a e).1) k q u
  left_at (change_key n x b) a e k place q u =
      left (change-grants m sound n x b _ (call_answered m (change_key n x b) a e).1).0 k q u
  left_at (remove_key n x) a e k place q u =
      left (removal-grants m sound n x _ (call_answered m (remove_key n x) a e).1) k q u
  left_at (change_prototype n p) a e k place q u =
      left (prototype_grants m sound n p _ (call_answered m (change_prototype n p) a e).1) k q u
  left_at new_root a e k place q u = absurd (place q)
  left_at new_unique a e k place q u = absurd (place q)
  left_at (hold n) a e k place q u = absurd (place q)
  left_at (release n) a e k place q u = absurd (place q)
  left_at (previous n) a e k place q u = absurd (place q)
  left_at sweep a e k place q u = absurd (place q)
  left_at (ask n x) a e k place q u = absurd (place q)
