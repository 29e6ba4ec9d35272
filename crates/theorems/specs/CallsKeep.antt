-- Every call on a sound model leaves a sound model, and keeps all shapes in use but those that it is made to
-- change: the unique that it acts on, and what a sweep frees. Holds change by what the reply says.
-- Assumes nothing.
use Rattle.std.specs.Prelude.{true, false, ◌&&◌, List, [], ◌⊎◌, ◌≢◌, ◌≡◌, ℕ, ◌+◌, ◌≤◌, ◌<◌, eqb}
use Rattle.std.proofs.Math.Bool.{and-false}
use Rattle.std.proofs.Common.{inl, inr, ◌∙◌, ap, eq-eqb, ne_eqb}
use Rattle.std.proofs.Math.Path.{refl}
use native.Mathlib.Omega.{arith}
use Rattle.std.proofs.lemmas.Bool.{eqb-false}
use Rattle.store.specs.Model.{Model, free_shape, shape_at}
use Rattle.store.specs.ListLaws.{both-and, Decided, either, not-both}
use Rattle.store.specs.declared.Shape.{Shape}
use Rattle.store.specs.declared.Entry.{Entry}
use Rattle.rules.specs.declared.ChangeTransitionAction.{ChangeTransitionAction}
use Rattle.rules.specs.declared.ChangeTransitionAction.TheVariants.{Nothing}
use Rattle.rules.specs.declared.Refusal.TheVariants.{NoShape}
use Rattle.rules.specs.Shapes.{attributes_in, shared, unique, root_shape, unique_shape}
use Rattle.rules.specs.Refusals.{Got, ok, refused, ◌>>=◌}
use Rattle.rules.proofs.Settled.{guard_passed, same_given}
use Rattle.rules.specs.Steps.{Placed, fresh}
use Rattle.rules.specs.Calls.{Call, new_root, new_unique, insert_key, change_key, remove_key, change_prototype, hold}
use Rattle.rules.specs.Calls.{release, previous, sweep, ask, Answer, Given, Reply, No, Yes, unheld, grant}
use Rattle.rules.specs.Calls.{action_for, grant_previous, perform, settle, call}
use Rattle.rules.specs.InUse.{shared_used}
use Rattle.theorems.specs.Facts.{Used, Sound, shared-not-unique}
use Rattle.theorems.specs.FactsSound.{facts_sound}
use Rattle.theorems.specs.Frame.{Kept, Keeps, keeps_self, keeps_again, kept_used}
use Rattle.theorems.specs.Holds.{release_keeps, grant_keeps}
use Rattle.theorems.specs.Taken.{bind_passed}
use Rattle.theorems.specs.HeldChains.{OnHeldChain, held_on_its_chain, swept_keeps}
use Rattle.theorems.specs.Made.{SharedAt, entries_at, prototype_at, transitions_at}
use Rattle.theorems.specs.Quiet.{holds_at, one, not-counted, granted_by, grant-holds, release_holds}
use Rattle.theorems.specs.Quiet.{sweep_holds}
use Rattle.theorems.specs.Questions.{Told, told, question_told}
use Rattle.theorems.specs.Changes.{Untouched, Gives, root-gives, unique-gives, may_act}
use Rattle.theorems.specs.Granting.{insert_grants, change-grants, removal-grants, prototype_grants}

-- ## Statements

-- The shapes that a call keeps: all in use. But a change of a unique does not keep that one, and a sweep
-- keeps the held ones and those on their previous chains.
abbrev pub KeptBy : Model → Call → ℕ → Type 0
KeptBy m new_root = Used m
KeptBy m new_unique = Used m
KeptBy m (insert_key n k a) = Untouched m n
KeptBy m (change_key n k a) = Untouched m n
KeptBy m (remove_key n k) = Untouched m n
KeptBy m (change_prototype n p) = Untouched m n
KeptBy m (hold n) = Used m
KeptBy m (release n) = Used m
KeptBy m (previous n) = Used m
KeptBy m sweep = OnHeldChain m
KeptBy m (ask n q) = Used m

-- The place that a call takes a hold from, 0 for none.
abbrev pub released_by : Call → ℕ
released_by new_root = 0
released_by new_unique = 0
released_by (insert_key n k a) = 0
released_by (change_key n k a) = 0
released_by (remove_key n k) = 0
released_by (change_prototype n p) = 0
released_by (hold n) = 0
released_by (release n) = n
released_by (previous n) = 0
released_by sweep = 0
released_by (ask n q) = 0

-- The shape that a call changes, 0 for none.
abbrev pub changed_by : Call → ℕ
changed_by new_root = 0
changed_by new_unique = 0
changed_by (insert_key n k a) = n
changed_by (change_key n k a) = n
changed_by (remove_key n k) = n
changed_by (change_prototype n p) = n
changed_by (hold n) = 0
changed_by (release n) = 0
changed_by (previous n) = 0
changed_by sweep = 0
changed_by (ask n q) = 0

-- What the reply to a call says of the holds of the place n: one is granted if the answer gives n, and one is
-- released if the call is `release n`; neither if the call is refused.
abbrev pub granted : (n : ℕ) → Reply → ℕ
granted n (No r) = 0
granted n (Yes a) = one (granted_by a) n

abbrev pub released : (n : ℕ) → Call → Reply → ℕ
released n c (No r) = 0
released n c (Yes a) = one (released_by c) n

-- What a call c on m with the reply r leaves.
pub record Called (m : Model) (c : Call) (j : Model) (r : Reply) : Type 0 where
  pub keeps : Keeps m j (KeptBy m c)
  pub holds : (n : ℕ) → n ≢ 0 → holds_at j n + released n c r ≡ holds_at m n + granted n r
  -- a hold that is released was there
  pub enough : (n : ℕ) → n ≢ 0 → released n c r ≤ holds_at m n

-- ## Each call

module _ (m : Model) (sound : Sound m) where
  -- "A call that returns a shape adds one hold to it".
  gives : {es : List Entry} {p : ℕ} (c : Call) → released_by c ≡ 0 → ((k : ℕ) → KeptBy m c k → Used m k)
      → (action : ChangeTransitionAction) (x : Placed) → Gives m (KeptBy m c) es p x
      → (y : Model × Answer) → grant action x ≡ ok y → Called m c y.0 (Yes y.1)
  gives c quiet in_use action x g y e =
      let s = g.keeps.is_sound in
      record {
        keeps = keeps_again g.keeps (λ k p kept. kept_used (in_use k p) kept)
            (grant_keeps x.0 s x.1 g.is_used action y e g.few);
        holds = λ n place.
            rw (quiet, not-counted n place)
            (omega (arith, grant-holds x.0 s x.1 g.is_used action y e n, g.same_holds n));
        enough = λ n place. rw (quiet, not-counted n place) (omega arith);
      }

  -- The same of what a rule gives.
  given : {es : List Entry} {p : ℕ} (c : Call) → released_by c ≡ 0 → ((k : ℕ) → KeptBy m c k → Used m k)
      → (action : ChangeTransitionAction) (g : Got Placed)
      → ((x : Placed) → g ≡ ok x → Gives m (KeptBy m c) es p x)
      → (y : Model × Answer) → (g >>= grant action) ≡ ok y → Called m c y.0 (Yes y.1)
  given c quiet in_use action g rule y e =
      let b = bind_passed g (grant action) y e in
      gives c quiet in_use action b.result (rule b.result b.gave) y b.below

  -- A hold of a shape that is there.
  pub here_gives : (n : ℕ) → Used m n → transitions_at m n < 1024
      → Gives m (Used m) (entries_at m n) (prototype_at m n) (m, n)
  here_gives n u below =
      record {
        keeps = keeps_self sound;
        same_holds = λ k. refl;
        is_used = u;
        few = λ full. omega arith;
        contents = record { its_entries = refl; its_prototype = refl };
      }

  pub previous_gives : (n : ℕ) → Used m n → let p = (shape_at m n).previous in
      eqb p 0 ≡ false → Gives m (Used m) (entries_at m p) (prototype_at m p) (m, p)
  previous_gives n u not_root = go (sound.shapes n u).words.state
    where
      p : ℕ
      p = (shape_at m n).previous

      go : (shared (shape_at m n) ≡ true) ⊎ (unique (shape_at m n) ≡ true)
          → Gives m (Used m) (entries_at m p) (prototype_at m p) (m, p)
      go (inl h) =
          let child = (sound.shapes n u).child (both-and h (rw not_root)) in
          let most = (sound.shapes n u).words.transitions in
          let more = child.one_more in
          here_gives p (shared_used (shape_at m p) child.previous_shared) (omega arith)
      go (inr r) = absurd (eqb-false p 0 not_root ((sound.shapes n u).words.unique r).previous)

  -- A question leaves the model as it was.
  asked : (c : Call) → released_by c ≡ 0 → (y : Model × Answer) → Told m y → Called m c y.0 (Yes y.1)
  asked c quiet y t =
      rw t.same_model record {
        keeps = keeps_self sound;
        holds = λ n place. rw (quiet, t.no_shape);
        enough = λ n place. rw (quiet, not-counted n place) (omega arith);
      }

  pub performed : (c : Call) (y : Model × Answer) → perform m c ≡ ok y → Called m c y.0 (Yes y.1)
  unfolding perform
  performed new_root y e =
      given new_root refl (λ k u. u) Nothing (fresh m root_shape [])
      (λ x e. (root-gives m sound x e).0) y e
  performed new_unique y e =
      given new_unique refl (λ k u. u) Nothing (fresh m (unique_shape 0 0 0) [])
      (λ x e. (unique-gives m sound x e).0) y e
  performed (insert_key n k a) y e =
      let t = insert_grants m sound n k a y e in
      gives (insert_key n k a) refl (λ k p. p.0) Nothing t.result t.changes.gives y t.grants
  performed (change_key n k a) y e =
      let t = (change-grants m sound n k a y e).0 in
      let action = action_for (attributes_in k (entries_at m n)) a in
      gives (change_key n k a) refl (λ k p. p.0) action t.result t.changes.gives y t.grants
  performed (remove_key n k) y e =
      let t = removal-grants m sound n k y e in
      gives (remove_key n k) refl (λ k p. p.0) Nothing t.result t.changes.gives y t.grants
  performed (change_prototype n p) y e =
      let t = prototype_grants m sound n p y e in
      gives (change_prototype n p) refl (λ k p. p.0) Nothing t.result t.changes.gives y t.grants
  performed (hold n) y e =
      let (may, e₁) = guard_passed NoShape (unheld m n) _ y e in
      let acts = may_act m sound n may in
      gives (hold n) refl (λ k u. u) Nothing (m, n) (here_gives n acts.is_used acts.below) y e₁
  performed (release n) y e =
      let (may, e₁) = guard_passed NoShape (unheld m n) _ y e in
      let acts = may_act m sound n may in
      rw (← same_given e₁)
      record {
        keeps = release_keeps m sound n acts.is_used;
        holds = λ k place.
            rw (not-counted k place) (omega (arith, release_holds m sound n acts.is_used acts.is_held k));
        enough = λ k place. omega (arith, release_holds m sound n acts.is_used acts.is_held k);
      }
  performed (previous n) y e =
      let (may, e₁) = guard_passed NoShape (unheld m n) _ y e in
      go (may_act m sound n may).is_used e₁ (either (eqb (shape_at m n).previous 0))
    where
      go : Used m n → grant_previous m (shape_at m n).previous ≡ ok y → Decided (eqb (shape_at m n).previous 0)
          → Called m (previous n) y.0 (Yes y.1)
      go u e (inl q) = asked (previous n) refl y (told m (Given 0 Nothing 0) refl y (rw q at e))
      go u e (inr q) =
          let p = (shape_at m n).previous in
          gives (previous n) refl (λ k u. u) Nothing (m, p) (previous_gives n u q) y (rw q at e)
  performed sweep y e =
      rw (← same_given e)
      record {
        keeps = swept_keeps m sound;
        holds = λ n place. rw (sweep_holds m sound n);
        enough = λ n place. rw (not-counted n place) (omega arith);
      }
  performed (ask n q) y e = asked (ask n q) refl y (question_told m n q y e)

  -- Refused or not, a call leaves a sound model, keeps what it is not made to change and counts its holds.
  pub called : (c : Call) → Called m c (call m c).0 (call m c).1
  unfolding call
  called c = rw (facts_sound m sound).1 (go (perform m c) refl)
    where
      go : (g : Got (Model × Answer)) → perform m c ≡ g → Called m c (settle m g).0 (settle m g).1
      go (ok y) e = performed c y e
      go (refused r) e =
          record { keeps = keeps_self sound; holds = λ n place. refl; enough = λ n place. omega arith }

-- "every call on a sound image" leaves "a sound image", over the model.
pub call-sound : (m : Model) (c : Call) → Sound m → Sound (call m c).0
call-sound m c sound = (called m sound c).keeps.is_sound

-- ## Held shapes

abbrev pub HeldAt : Model → ℕ → Type 0
HeldAt m n = (shape_at m n).holds ≢ 0

module _ (m : Model) (sound : Sound m) (n : ℕ) (is_held : HeldAt m n) where
  pub held_used : Used m n
  held_used = go (either (free_shape (shape_at m n)))
    where
      go : Decided (free_shape (shape_at m n)) → Used m n
      go (inl f) = absurd (is_held (ap (λ (s : Shape). s.holds) (sound.free_shapes n f)))
      go (inr u) = u

  pub held_stays : OnHeldChain m n
  held_stays = held_on_its_chain m sound n (rw (ne_eqb (shape_at m n).holds 0 is_held))

  -- No sweep changes a held shape, shared or unique,
  pub sweep_keeps_held : Kept m (call m sweep).0 n
  sweep_keeps_held = (called m sound sweep).keeps.keeps n held_stays

  -- and no call a held shape, but the unique that it is made to change.
  untouched : (k : ℕ) → (eqb n k && unique (shape_at m n)) ≡ false → Untouched m k n
  untouched k other = (
    held_used,
    λ r q. not-both (both-and (eq-eqb n k q) (ap (λ (x : ℕ). unique (shape_at m x)) q ∙ r)) other,
  )

  held_kept : (c : Call) → (eqb n (changed_by c) && unique (shape_at m n)) ≡ false → KeptBy m c n
  held_kept new_root other = held_used
  held_kept new_unique other = held_used
  held_kept (insert_key k x a) other = untouched k other
  held_kept (change_key k x a) other = untouched k other
  held_kept (remove_key k x) other = untouched k other
  held_kept (change_prototype k p) other = untouched k other
  held_kept (hold k) other = held_used
  held_kept (release k) other = held_used
  held_kept (previous k) other = held_used
  held_kept sweep other = held_stays
  held_kept (ask k q) other = held_used

  pub call_keeps_held : (c : Call) → (eqb n (changed_by c) && unique (shape_at m n)) ≡ false
      → Kept m (call m c).0 n
  call_keeps_held c other = (called m sound c).keeps.keeps n (held_kept c other)

  -- So none changes a held shared shape.
  pub call_keeps_shared : SharedAt m n → (c : Call) → Kept m (call m c).0 n
  call_keeps_shared h c =
      call_keeps_held c (rw (shared-not-unique (shape_at m n) h) (and-false (eqb n (changed_by c))))
