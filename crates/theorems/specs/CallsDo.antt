-- What each call that answers a shape does: the action, the shape's entries and prototype, and the count.
-- Assumes nothing.
use Rattle.std.specs.Prelude.{Bool, false, ◌⊎◌, ◌≢◌, ◌≡◌, ℕ, ◌+◌, ◌<◌, eqb, leb, length}
use Rattle.std.proofs.Math.Bool.{true}
use mathlib.Core.List.{List, [], ◌∷◌, ◌++◌}
use Rattle.std.proofs.Common.{inl, inr, ◌∙◌, arith}
use Rattle.std.proofs.Math.Path.{sym, ap}
use borrow.Author.Tests.{eqb-true, eqb-false}
use Rattle.store.specs.Model.{Model, free_shape, shape_at, put_shape}
use Rattle.store.specs.PlaceLaws.{put_here}
use Rattle.store.specs.ListLaws.{and_both, both-and, Decided, either}
use Rattle.store.specs.declared.Shape.{Shape}
use Rattle.store.specs.declared.Entry.{Entry}
use Rattle.rules.specs.declared.ChangeTransitionAction.{ChangeTransitionAction}
use Rattle.rules.specs.declared.ChangeTransitionAction.TheVariants.{Nothing}
use Rattle.rules.specs.declared.Refusal.TheVariants.{NoShape, HoldsFull}
use Rattle.rules.specs.Shapes.{has, attributes_in, without, shared, unique, is_root, root_shape, unique_shape}
use Rattle.rules.specs.Shapes.{with_holds}
use Rattle.rules.specs.Refusals.{Got, ok}
use Rattle.rules.proofs.Settled.{guard_passed, same_given, call_answered}
use Rattle.rules.specs.Steps.{Step, Placed, fresh}
use Rattle.rules.specs.Trails.{trail, root}
use Rattle.rules.specs.Calls.{Call, new_root, new_unique, insert_key, change_key, remove_key, change_prototype, hold}
use Rattle.rules.specs.Calls.{previous, Answer, Given, Reply, Yes, unheld, grant, grant_previous, perform, call}
use Rattle.rules.specs.InUse.{shared_used}
use Rattle.theorems.specs.Facts.{Used, Sound, unique_used}
use Rattle.theorems.specs.Entries.{keys, laid_without_absent}
use Rattle.theorems.specs.Frame.{Kept, Keeps, kept_used, kept-shared, kept-root}
use Rattle.theorems.specs.Holds.{shape-put, grant_keeps}
use Rattle.theorems.specs.Taken.{bind_passed}
use Rattle.theorems.specs.Uniques.{OldOne}
use Rattle.theorems.specs.Made.{SharedAt, entries_at, prototype_at, previous_at, transitions_at, Contents}
use Rattle.theorems.specs.Made.{own_good, kept_contents}
use Rattle.theorems.specs.SameTrail.{trail-length}
use Rattle.theorems.specs.Outcomes.{Outcome, by_insert, by_change, by_removal, by_prototype}
use Rattle.theorems.specs.Changes.{Gives, Traced, Limited, root-gives, unique-gives, may_act}
use Rattle.theorems.specs.Granting.{Granting, insert_grants, change-grants, removal-grants}
use Rattle.theorems.specs.Granting.{prototype_grants}
use Rattle.theorems.specs.CallsKeep.{HeldAt, here_gives, previous_gives}

-- ## Statements

-- The call k on m leaves j and answers the shape c, the action and the count.
abbrev pub Says : Model → Call → Model → ℕ → ChangeTransitionAction → ℕ → Type 0
Says m k j c action count = call m k ≡ (j, Yes (Given c action count))

-- What is said of every shape that a call answers: j is the model after the call; c, given and count are what
-- it answers; the action, the entries and the prototype are what is due.
pub record Answered (j : Model) (c : ℕ) (given : ChangeTransitionAction) (count : ℕ)
    (action : ChangeTransitionAction) (es : List Entry) (p : ℕ) : Type 0 where
  pub its_action : given ≡ action
  pub is_held : HeldAt j c
  pub contents : Contents j c es p
  -- the count is the shape's own: of a shared one its trail's length, below the limit, and of a unique 0
  pub its_count : count ≡ transitions_at j c
  pub shared_count : SharedAt j c → (count ≡ length (trail j c)) × (count < 1024)
  pub unique_count : unique (shape_at j c) ≡ true → count ≡ 0

-- What is said of a change of the shape at n in m: its outcome is o, and the keys of the answer are ks, in
-- that order.
pub record Changed (m : Model) (n : ℕ) (o : Outcome) (ks : List ℕ)
    (j : Model) (c : ℕ) (given : ChangeTransitionAction) (count : ℕ) : Type 0 where
  pub was_held : HeldAt m n
  pub answered : Answered j c given count o.action o.entries o.prototype
  pub its_keys : keys (entries_at j c) ≡ ks
  -- a unique gives a unique, on the same number or with the old one left without keys
  pub of_unique : unique (shape_at m n) ≡ true
      → (unique (shape_at j c) ≡ true) × OldOne o.same j n o.left c
  -- a shared shape gives a shared one, or at 1,024 transitions a unique with the same entries and prototype
  pub of_shared : SharedAt m n → Limited o.trail (root m n) j c

-- What is said of the previous of the shape at n in m: "0, no hold, at a root or unique".
pub record Previous (m : Model) (n : ℕ) (j : Model) (c : ℕ) (given : ChangeTransitionAction) (count : ℕ)
    : Type 0 where
  pub its : c ≡ previous_at m n
  pub at_root : is_root (shape_at m n) ≡ true → c ≡ 0
  pub at_unique : unique (shape_at m n) ≡ true → c ≡ 0
  pub none : c ≡ 0 → (j ≡ m) × (given ≡ Nothing) × (count ≡ 0)
  pub some : c ≢ 0 → SharedAt m c × Answered j c given count Nothing (entries_at m c) (prototype_at m c)

-- ## A result is held and answered

-- What `grant` makes of the result x.
record Granted (x : Placed) (action : ChangeTransitionAction)
    (j : Model) (c : ℕ) (given : ChangeTransitionAction) (count : ℕ) : Type 0 where
  its : x.1 ≡ c
  its_action : given ≡ action
  its_count : transitions_at x.0 x.1 ≡ count
  keeps : Keeps x.0 j (Used x.0)
  is_held : HeldAt j x.1

module _ {j : Model} where
  -- What was said of the shapes before the hold is said of them still.
  pub same_traced : {i : Model} {c r : ℕ} {ts : List Step} → Kept i j c → Traced ts r i c → Traced ts r j c
  same_traced k t =
      record {
        is_shared = kept-shared t.is_shared k;
        its_trail = k.same_trail ∙ t.its_trail;
        its_root = kept-root k ∙ t.its_root;
      }

  same_limited : {i : Model} {c r : ℕ} {ts : List Step} → Kept i j c → Limited ts r i c → Limited ts r j c
  same_limited k l =
      record {
        below = λ few. same_traced k (l.below few);
        full = λ z. ap unique k.same_core ∙ l.full z;
      }

  same_old : (i : Model) → Keeps i j (Used i) → (same : Bool) (n q c : ℕ) → OldOne same i n q c
      → OldOne same j n q c
  same_old i k true n q c e = e
  same_old i k false n q c (other, left) =
      let kept = k.keeps n left.is_used in (
        other,
        record {
          is_used = kept_used left.is_used kept;
          is_unique = ap unique kept.same_core ∙ left.is_unique;
          contents = kept_contents kept left.contents;
        },
      )

module _ {j : Model} {c : ℕ} {given : ChangeTransitionAction} {count : ℕ} where
  grants : {m : Model} {P : ℕ → Type 0} {es : List Entry} {p : ℕ} (x : Placed) → Gives m P es p x
      → (action : ChangeTransitionAction) → grant action x ≡ ok (j, Given c given count)
      → Granted x action j c given count
  grants (i, n) g action e =
      let s = shape_at i n in
      let more = with_holds s (s.holds + 1) in
      let done : Got (Model × Answer) = ok (put_shape i n more, Given n action s.transitions) in
      let sound = g.keeps.is_sound in
      let passed = guard_passed HoldsFull (leb 65535 s.holds) done (j, Given c given count) e in
      let both = same_given passed.1 in
      let after : put_shape i n more ≡ j = ap (λ (y : Model × Answer). y.0) both in
      let answer : Given n action s.transitions ≡ Given c given count
      = ap (λ (y : Model × Answer). y.1) both in
      let stands = put_here (shape-put i sound n g.is_used more n) in
      let some : HeldAt (put_shape i n more) n = rw stands (λ z. omega arith) in
      record {
        its = cc;
        its_action = cc;
        its_count = cc;
        keeps = grant_keeps i sound n g.is_used action (j, Given c given count) e g.few;
        is_held = rw after at some;
      }

  module _ {m : Model} {P : ℕ → Type 0} {es : List Entry} {p : ℕ} (x : Placed) (g : Gives m P es p x)
      (action : ChangeTransitionAction) (t : Granted x action j c given count) where
    kept : Kept x.0 j x.1
    kept = t.keeps.keeps x.1 g.is_used

    answers : Answered j x.1 given count action es p
    answers =
        let u = kept_used g.is_used kept in
        let s = t.keeps.is_sound.shapes x.1 u in
        let most = s.words.transitions in
        let same : transitions_at j x.1 ≡ transitions_at x.0 x.1
        = ap (λ (s : Shape). s.transitions) kept.same_core in
        let few : transitions_at j x.1 ≢ 1024 = λ full. t.is_held (s.limits.unheld full) in
        let long = trail-length j x.1 in
        let its_count = t.its_count in
        record {
          its_action = t.its_action;
          is_held = t.is_held;
          contents = kept_contents kept g.contents;
          its_count = omega arith;
          shared_count = λ h. (omega arith, omega arith);
          unique_count = λ r. omega (arith, (s.words.unique r).transitions);
        }

  -- A change is answered.
  pub changes : {m : Model} {n : ℕ} {o : Outcome} {ks : List ℕ} → Granting m n o ks (j, Given c given count)
      → Changed m n o ks j c given count
  changes {m} {n} {o} {ks} r =
      let x = r.result in
      let t = grants x r.changes.gives o.action r.grants in
      let a = answers x r.changes.gives o.action t in
      let k = kept x r.changes.gives o.action t in
      let did : Changed m n o ks j x.1 given count = record {
        was_held = r.was_held;
        answered = a;
        its_keys = ap keys a.contents.its_entries ∙ r.its_keys;
        of_unique = λ u.
            let (still, old) = r.changes.of_unique u in (
              ap unique k.same_core ∙ still,
              same_old x.0 t.keeps o.same n o.left x.1 old,
            );
        of_shared = λ h. same_limited k (r.changes.of_shared h);
      } in
      rw t.its at did

-- ## Each kind of call

module _ (m : Model) (sound : Sound m) {j : Model} {c : ℕ} {given : ChangeTransitionAction} {count : ℕ} where
  pub performs : (k : Call) → Says m k j c given count → perform m k ≡ ok (j, Given c given count)
  performs k e =
      let done = (call_answered m k (Given c given count) (ap (λ (y : Model × Reply). y.1) e)).1 in
      rw (ap (λ (y : Model × Reply). y.0) e) at done

  -- A new root has no keys and no prototype, and it is a shared shape without transitions, where none was.
  pub root_does : Says m new_root j c given count
      → Answered j c given count Nothing [] 0
      × SharedAt j c
      × (count ≡ 0)
      × (free_shape (shape_at m c) ≡ true)
  unfolding perform
  root_does e =
      let rule = fresh m root_shape [] in
      let b = bind_passed rule (grant Nothing) (j, Given c given count) (performs new_root e) in
      let x = b.result in
      let (g, is_a_root, was_free) = root-gives m sound x b.gave in
      let t = grants x g Nothing b.below in
      let k = kept x g Nothing t in
      let a = rw t.its at (answers x g Nothing t) in
      let root : is_root (shape_at j c) ≡ true = rw (← t.its) (ap is_root k.same_core ∙ is_a_root) in
      let h = (and_both (shared (shape_at j c)) root).0 in
      let none = ((t.keeps.is_sound.shapes c (shared_used (shape_at j c) h)).words.root root).transitions in
      (a, h, a.its_count ∙ none, rw t.its at was_free)

  -- A new unique has no keys and no prototype, and it is unique.
  pub unique_does : Says m new_unique j c given count
      → Answered j c given count Nothing [] 0 × (unique (shape_at j c) ≡ true)
  unfolding perform
  unique_does e =
      let rule = fresh m (unique_shape 0 0 0) [] in
      let b = bind_passed rule (grant Nothing) (j, Given c given count) (performs new_unique e) in
      let x = b.result in
      let (g, is) = unique-gives m sound x b.gave in
      let t = grants x g Nothing b.below in
      let is_still = ap unique (kept x g Nothing t).same_core ∙ is in
      (rw t.its at (answers x g Nothing t), rw t.its at is_still)

  -- A hold answers the same shape.
  pub hold_does : (n : ℕ) → Says m (hold n) j c given count
      → HeldAt m n × (c ≡ n) × Answered j n given count Nothing (entries_at m n) (prototype_at m n)
  unfolding perform
  hold_does n e =
      let (may, e₁) = guard_passed NoShape (unheld m n) _ _ (performs (hold n) e) in
      let acts = may_act m sound n may in
      let g = here_gives m sound n acts.is_used acts.below in
      let t = grants (m, n) g Nothing e₁ in
      (acts.is_held, sym t.its, answers (m, n) g Nothing t)

  -- "Insert": the key stands at the end.
  pub insert_does : (n k a : ℕ) → Says m (insert_key n k a) j c given count
      → Changed m n (by_insert m n k a) (keys (entries_at m n) ++ k ∷ []) j c given count
  insert_does n k a e = changes (insert_grants m sound n k a _ (performs (insert_key n k a) e))

  -- A change of attributes: the keys are the same, and the key has its new attributes.
  pub change_does : (n k a : ℕ) → Says m (change_key n k a) j c given count
      → Changed m n (by_change m n k a) (keys (entries_at m n)) j c given count
      × (attributes_in k (entries_at j c) ≡ a)
  change_does n k a e =
      let (r, attributes) = change-grants m sound n k a _ (performs (change_key n k a) e) in
      let did = changes r in
      (did, ap (attributes_in k) did.answered.contents.its_entries ∙ attributes)

  -- A removal: the other keys, in the same order.
  pub removal_does : (n k : ℕ) → Says m (remove_key n k) j c given count
      → Changed m n (by_removal m n k) (keys (without (entries_at m n) k)) j c given count
  removal_does n k e = changes (removal-grants m sound n k _ (performs (remove_key n k) e))

  -- "Removing an absent key gives the same number", with the same keys.
  pub absent_removal_does : (n k : ℕ) → Says m (remove_key n k) j c given count
      → unique (shape_at m n) ≡ true → has k (entries_at m n) ≡ false
      → (c ≡ n) × Contents j c (entries_at m n) (prototype_at m n)
  absent_removal_does n k e r absent =
      let did = removal_does n k e in
      let contents = did.answered.contents in
      let good = (own_good m sound n (unique_used (shape_at m n) r)).good in (
        rw absent at (did.of_unique r).1,
        record {
          its_entries = contents.its_entries ∙ rw r (laid_without_absent k (entries_at m n) good absent);
          its_prototype = contents.its_prototype;
        },
      )

  -- A change of prototype: the same keys, with their attributes and slots.
  pub prototype_does : (n p : ℕ) → Says m (change_prototype n p) j c given count
      → Changed m n (by_prototype m n p) (keys (entries_at m n)) j c given count
  prototype_does n p e = changes (prototype_grants m sound n p _ (performs (change_prototype n p) e))

  -- The previous, held; 0 where there is none.
  pub previous_does : (n : ℕ) → Says m (previous n) j c given count → Previous m n j c given count
  unfolding perform
  previous_does n e =
      let (may, e₁) = guard_passed NoShape (unheld m n) _ _ (performs (previous n) e) in
      go (may_act m sound n may).is_used e₁ (either (eqb (previous_at m n) 0))
    where
      at-root : c ≡ previous_at m n → is_root (shape_at m n) ≡ true → c ≡ 0
      at-root its r = its ∙ eqb-true (previous_at m n) 0 (and_both (shared (shape_at m n)) r).1

      at-unique : Used m n → c ≡ previous_at m n → unique (shape_at m n) ≡ true → c ≡ 0
      at-unique u its r = its ∙ ((sound.shapes n u).words.unique r).previous

      previous_shared_lem : Used m n → eqb (previous_at m n) 0 ≡ false → SharedAt m (previous_at m n)
      previous_shared_lem u some = by (sound.shapes n u).words.state
        where
          by : SharedAt m n ⊎ (unique (shape_at m n) ≡ true) → SharedAt m (previous_at m n)
          by (inl h) = ((sound.shapes n u).child (both-and h (rw some))).previous_shared
          by (inr r) =
              absurd (eqb-false (previous_at m n) 0 some ((sound.shapes n u).words.unique r).previous)

      go : Used m n → grant_previous m (previous_at m n) ≡ ok (j, Given c given count)
          → Decided (eqb (previous_at m n) 0) → Previous m n j c given count
      go u e (inl none) =
          let both : ◌≡◌ {A = Model × Answer} (m, Given 0 Nothing 0) (j, Given c given count)
          = same_given (rw none at e) in
          let answer : Given 0 Nothing 0 ≡ Given c given count = ap (λ (y : Model × Answer). y.1) both in
          let zero : 0 ≡ c = cc in
          let its : c ≡ previous_at m n = sym zero ∙ sym (eqb-true (previous_at m n) 0 none) in
          record {
            its = its;
            at_root = at-root its;
            at_unique = at-unique u its;
            none = λ z. (sym (ap (λ (y : Model × Answer). y.0) both), (cc), (cc));
            some = λ other. absurd (other (sym zero));
          }
      go u e (inr some) =
          let g = previous_gives m sound n u some in
          let t = grants (m, previous_at m n) g Nothing (rw some at e) in
          let a = answers (m, previous_at m n) g Nothing t in
          let its = t.its in
          record {
            its = sym its;
            at_root = at-root (sym its);
            at_unique = at-unique u (sym its);
            none = λ z. absurd (eqb-false (previous_at m n) 0 some (its ∙ z));
            some = λ other. (rw its at (previous_shared_lem u some), rw its at a);
          }
