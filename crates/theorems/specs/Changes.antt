-- The four changes of a shape in either state, and new shapes: what each gives before its result is held.
-- Assumes nothing.
use Rattle.std.specs.Prelude.{true, false, not, List, [], ◌++◌, ◌≢◌, ◌≡◌, ℕ, ◌<◌, eqb, length}
use Rattle.std.proofs.Common.{inl, inr, sym, ◌∙◌, ap, arith, eqb-true}
use Rattle.std.proofs.Math.Path.{refl}
use Rattle.std.proofs.lemmas.Bool.{eqb-false, not-true, not-false}
use Rattle.std.specs.Prelude.{if◌then◌else◌}
use Rattle.slot.specs.Attributes.{good_attributes, same_width}
use Rattle.store.specs.Model.{Model, free_shape, shape_at}
use Rattle.store.specs.ListLaws.{both-and, or-none, Decided, either, not-both}
use Rattle.store.specs.declared.Shape.{Shape}
use Rattle.store.specs.declared.Entry.{Entry}
use Rattle.rules.specs.Numbers.{good_key}
use Rattle.rules.specs.Shapes.{has, attributes_in, unique, is_root, entries, root_shape, unique_shape}
use Rattle.rules.specs.Refusals.{Got, ok, ◌>>=◌}
use Rattle.rules.proofs.Settled.{same_given}
use Rattle.rules.specs.Steps.{Step, insert, prototype, Placed, step, remove_shared, change_shared, fresh, limited}
use Rattle.rules.specs.Unique.{insert_unique, remove_unique, change_unique, prototype_unique, inserted, changed}
use Rattle.rules.specs.Unique.{removed, rebased}
use Rattle.rules.specs.Sweep.{held}
use Rattle.rules.specs.Calls.{unheld}
use Rattle.rules.specs.InUse.{shared_used}
use Rattle.rules.specs.Trails.{trail, root}
use Rattle.theorems.specs.Facts.{Used, GoodTable, Sound, unique_used, shared-not-unique, shared-or-unique}
use Rattle.theorems.specs.Frame.{Keeps, keeps_self, keeps_fewer, keeps_again, kept_used}
use Rattle.theorems.specs.Taken.{bind_passed}
use Rattle.theorems.specs.Grow.{FreshShape, Fresh, fresh_keeps, fresh-root, fresh-unique}
use Rattle.theorems.specs.Uniques.{OldOne, Acted, insert_unique_keeps, remove_unique_keeps}
use Rattle.theorems.specs.Uniques.{change_unique_keeps, prototype_unique_keeps}
use Rattle.theorems.specs.Made.{SharedAt, entries_at, prototype_at, transitions_at, Contents, own_good}
use Rattle.theorems.specs.Made.{own_count}
use Rattle.theorems.specs.InTurn.{steps_entries, steps_prototype}
use Rattle.theorems.specs.SameTrail.{trail-length}
use Rattle.theorems.specs.Rollback.{rolled_back}
use Rattle.theorems.specs.RollbackOfTrails.{base-root, removal-trail, equal_width_trail, other_width_trail}
use Rattle.theorems.specs.Outcomes.{Outcome, by_insert, by_change, by_removal, by_prototype}
use Rattle.theorems.specs.Sequence.{Led, step_led, removal_led, change_led, configure_led}
use Rattle.theorems.specs.Quiet.{SameHolds, Quiet, fresh_holds, step-holds, removal-holds, change-holds}
use Rattle.theorems.specs.Quiet.{insert_unique_holds, remove_unique_holds, change-unique-holds}
use Rattle.theorems.specs.Quiet.{prototype_unique_holds}

-- ## Statements

-- The shapes that a change of the shape at n keeps: all in use, but n itself if it is unique.
abbrev pub Untouched : Model → (n : ℕ) → ℕ → Type 0
Untouched m n k = Used m k × (unique (shape_at m n) ≡ true → k ≢ n)

-- What a rule gives before its result is held: a sound model that keeps the shapes of P and every hold, and a
-- shape in use that may be held, with the entries es and the prototype p.
pub record Gives (m : Model) (P : ℕ → Type 0) (es : List Entry) (p : ℕ) (y : Placed) : Type 0 where
  pub keeps : Keeps m y.0 P
  pub same_holds : SameHolds m y.0
  pub is_used : Used y.0 y.1
  pub few : transitions_at y.0 y.1 ≢ 1024
  pub contents : Contents y.0 y.1 es p

-- The shape at n is shared, its trail is ts, and its root is r.
pub record Traced (ts : List Step) (r : ℕ) (m : Model) (n : ℕ) : Type 0 where
  pub is_shared : SharedAt m n
  pub its_trail : trail m n ≡ ts
  pub its_root : root m n ≡ r

-- "If the final result has 1,024 transitions, a new unique shape .. is returned". The steps lead to the trail ts
-- from the root r, and the shape at n is the answer.
pub record Limited (ts : List Step) (r : ℕ) (m : Model) (n : ℕ) : Type 0 where
  pub below : length ts ≢ 1024 → Traced ts r m n
  pub full : length ts ≡ 1024 → unique (shape_at m n) ≡ true

-- What a change of the shape at n gives.
pub record ChangesTo (m : Model) (n : ℕ) (o : Outcome) (y : Placed) : Type 0 where
  pub gives : Gives m (Untouched m n) o.entries o.prototype y
  pub of_unique : unique (shape_at m n) ≡ true
      → (unique (shape_at y.0 y.1) ≡ true) × OldOne o.same y.0 n o.left y.1
  pub of_shared : SharedAt m n → Limited o.trail (root m n) y.0 y.1

-- A shape that a call may act on: it is in use, and below 1,024 transitions since it is held.
pub record MayAct (m : Model) (n : ℕ) : Type 0 where
  pub is_used : Used m n
  pub is_held : (shape_at m n).holds ≢ 0
  pub below : transitions_at m n < 1024

module _ (m : Model) (sound : Sound m) where
  no_entries : GoodTable m.K []
  no_entries = record { good = refl; room = omega arith }

  -- ## A new shape

  fresh_gives : {shape : ℕ → Shape} {es : List Entry} {y : Placed} (p : ℕ) → Fresh m shape es y
      → ((t : ℕ) → free_shape (shape t) ≡ false) → ((t : ℕ) → (shape t).transitions ≡ 0)
      → ((t : ℕ) → (shape t).prototype ≡ p) → SameHolds m y.0 → Gives m (Used m) es p y
  fresh_gives p f stands none its same =
      record {
        keeps = f.keeps;
        same_holds = same;
        is_used = rw f.stands (stands f.table);
        few = λ full. omega (arith, full, ap (λ (s : Shape). s.transitions) f.stands, none f.table);
        contents = record {
          its_entries = f.its_entries;
          its_prototype = ap (λ (s : Shape). s.prototype) f.stands ∙ its f.table;
        };
      }

  pub root-gives : (y : Placed) → fresh m root_shape [] ≡ ok y
      → Gives m (Used m) [] 0 y
      × (is_root (shape_at y.0 y.1) ≡ true)
      × (free_shape (shape_at m y.1) ≡ true)
  root-gives y e =
      let f = fresh_keeps m sound root_shape [] fresh-root no_entries y e in
      let same = fresh_holds m root_shape [] (λ t. refl) y e in
      (fresh_gives 0 f (λ t. refl) (λ t. refl) (λ t. refl) same, ap is_root f.stands, f.was_free)

  pub unique-gives : (y : Placed) → fresh m (unique_shape 0 0 0) [] ≡ ok y
      → Gives m (Used m) [] 0 y × (unique (shape_at y.0 y.1) ≡ true)
  unique-gives y e =
      let shape = unique_shape 0 0 0 in
      let f = fresh_keeps m sound shape [] (λ t. fresh-unique 0 0 0 t (omega arith)) no_entries y e in
      let same = fresh_holds m shape [] (λ t. refl) y e in
      (fresh_gives 0 f (λ t. refl) (λ t. refl) (λ t. refl) same, ap unique f.stands)

  -- "If the final result has 1,024 transitions, a new unique shape copies its keys and prototype"
  limited-gives : (n : ℕ) → SharedAt m n → (y : Placed) → limited (m, n) ≡ ok y
      → Gives m (Used m) (entries_at m n) (prototype_at m n) y
      × Limited (trail m n) (root m n) y.0 y.1
  unfolding limited
  limited-gives n h y e = go (either (eqb s.transitions 1024))
    where
      s : Shape
      s = shape_at m n

      u : Used m n
      u = shared_used s h

      fit : (t : ℕ) → FreshShape (unique_shape 0 s.properties s.prototype t) t (length (entries m s))
      fit t = rw (own_count m sound n u) (fresh-unique 0 s.properties s.prototype t (omega arith))

      go : Decided (eqb s.transitions 1024)
          → Gives m (Used m) (entries_at m n) (prototype_at m n) y
          × Limited (trail m n) (root m n) y.0 y.1
      go (inl q) =
          let shape = unique_shape 0 s.properties s.prototype in
          let f = fresh_keeps m sound shape (entries m s) fit (own_good m sound n u) y (rw q at e) in
          let same = fresh_holds m shape (entries m s) (λ t. refl) y (rw q at e) in
          let full = eqb-true s.transitions 1024 q in (
            fresh_gives s.prototype f (λ t. refl) (λ t. refl) (λ t. refl) same,
            record { below = λ few. absurd (few (trail-length m n ∙ full)); full = λ z. ap unique f.stands },
          )
      go (inr q) =
          let few = eqb-false s.transitions 1024 q in
          rw (← same_given (rw q at e)) (
            record {
              keeps = keeps_self sound;
              same_holds = λ k. refl;
              is_used = u;
              few = few;
              contents = record { its_entries = refl; its_prototype = refl };
            },
            record {
              below = λ z. record { is_shared = h; its_trail = refl; its_root = refl };
              full = λ full. absurd (few (sym (trail-length m n) ∙ full));
            },
          )

  -- ## A shape in either state

  acted_gives : (n : ℕ) (o : Outcome) (y : Placed)
      → Acted m n o.entries o.prototype o.same o.left y → SameHolds m y.0
      → unique (shape_at m n) ≡ true → ChangesTo m n o y
  acted_gives n o y a same r =
      let u = unique_used (shape_at y.0 y.1) a.is_unique in
      let z = (a.keeps.is_sound.shapes y.1 u).words.unique a.is_unique in
      record {
        gives = record {
          keeps = keeps_fewer (λ k p. (p.0, p.1 r)) a.keeps;
          same_holds = same;
          is_used = u;
          few = λ full. omega (arith, z.transitions, full);
          contents = a.contents;
        };
        of_unique = λ r. (a.is_unique, a.old_one);
        of_shared = λ h. not-both r (shared-not-unique (shape_at m n) h);
      }

-- What a rule for shared shapes gives before the limit is looked at.
record Leads (m : Model) (n : ℕ) (o : Outcome) (x : Placed) : Type 0 where
  keeps : Keeps m x.0 (Used m)
  is_shared : SharedAt x.0 x.1
  its_entries : entries_at x.0 x.1 ≡ o.entries
  its_prototype : prototype_at x.0 x.1 ≡ o.prototype
  its_trail : trail x.0 x.1 ≡ o.trail
  its_root : root x.0 x.1 ≡ root m n

led_leads : {m : Model} {b : ℕ} {ts : List Step} {x : Placed} (n : ℕ) (o : Outcome) → Led m b ts x
    → steps_entries ts (entries_at m b) ≡ o.entries → steps_prototype ts (prototype_at m b) ≡ o.prototype
    → trail m b ++ ts ≡ o.trail → root m b ≡ root m n → Leads m n o x
led_leads n o l es p ts r =
    record {
      keeps = l.keeps;
      is_shared = l.is_shared;
      its_entries = l.its_entries ∙ es;
      its_prototype = l.its_prototype ∙ p;
      its_trail = l.its_trail ∙ ts;
      its_root = l.its_root ∙ r;
    }

module _ (m : Model) (sound : Sound m) where
  shared-gives : (n : ℕ) → SharedAt m n → (o : Outcome) (x : Placed) → Leads m n o x → SameHolds m x.0
      → (y : Placed) → limited x ≡ ok y → ChangesTo m n o y
  shared-gives n h o (j, c) l same y e =
      let (g, limit) = limited-gives j l.keeps.is_sound c l.is_shared y e in
      let all = keeps_again l.keeps (λ k u kept. kept_used u kept) g.keeps in
      record {
        gives = record {
          keeps = keeps_fewer (λ k p. p.0) all;
          same_holds = λ k. g.same_holds k ∙ same k;
          is_used = g.is_used;
          few = g.few;
          contents = record {
            its_entries = g.contents.its_entries ∙ l.its_entries;
            its_prototype = g.contents.its_prototype ∙ l.its_prototype;
          };
        };
        of_unique = λ r. not-both r (shared-not-unique (shape_at m n) h);
        of_shared = λ h. rw (l.its_trail, l.its_root) at limit;
      }

  -- One law for the four changes of a shape in either state.
  change-gives : (n : ℕ) → Used m n → (o : Outcome) (for_unique for_shared : Got Placed)
      → (unique (shape_at m n) ≡ true → Quiet m for_unique) → Quiet m for_shared
      → (unique (shape_at m n) ≡ true → (y : Placed) → for_unique ≡ ok y
      → Acted m n o.entries o.prototype o.same o.left y)
      → (SharedAt m n → (x : Placed) → for_shared ≡ ok x → Leads m n o x)
      → (y : Placed) → (if unique (shape_at m n) then for_unique else (for_shared >>= limited)) ≡ ok y
      → ChangesTo m n o y
  change-gives n u o for_unique for_shared quiet_unique quiet_shared acts leads y e =
      go (either (unique (shape_at m n)))
    where
      go : Decided (unique (shape_at m n)) → ChangesTo m n o y
      go (inl r) = acted_gives m sound n o y (acts r y (rw r at e)) (quiet_unique r y (rw r at e)) r
      go (inr r) =
          let b = bind_passed for_shared limited y (rw r at e) in
          let h = shared-or-unique (sound.shapes n u).words ∙ ap not r in
          let x = b.result in
          shared-gives n h o x (leads h x b.gave) (quiet_shared x b.gave) y b.below

  pub may_act : (n : ℕ) → unheld m n ≡ false → MayAct m n
  may_act n h =
      let s = shape_at m n in
      let (u, is_held) = or-none (free_shape s) h in
      let some = eqb-false s.holds 0 (not-true (eqb s.holds 0) (not-false (held s) is_held)) in
      let w = sound.shapes n u in
      let most = w.words.transitions in
      let few : s.transitions ≢ 1024 = λ full. some (w.limits.unheld full) in
      record { is_used = u; is_held = some; below = omega arith }

  -- ## The four changes

  module _ (n : ℕ) (may : MayAct m n) where
    abbrev es : List Entry
    es = entries_at m n

    pub inserted-gives : (k a : ℕ) → good_key k ≡ true → good_attributes a ≡ true → has k es ≡ false
        → (y : Placed) → inserted m n k a ≡ ok y → ChangesTo m n (by_insert m n k a) y
    unfolding inserted
    inserted-gives k a key low absent =
        change-gives n may.is_used (by_insert m n k a) (insert_unique m n k a) (step m n (insert k a))
        (λ r. insert_unique_holds m n r k a) (step-holds m n (insert k a))
        (λ r. insert_unique_keeps m sound n r k a key low absent)
        (λ h x e.
        let l = step_led m sound n h (insert k a) may.below (both-and key low, rw absent, tt) x e in
        led_leads n (by_insert m n k a) l refl refl refl refl)

    pub changed-gives : (k a : ℕ) → good_key k ≡ true → good_attributes a ≡ true → has k es ≡ true
        → (y : Placed) → changed m n k a ≡ ok y → ChangesTo m n (by_change m n k a) y
    unfolding changed
    changed-gives k a key low holds =
        change-gives n may.is_used (by_change m n k a) (change_unique m n k a) (change_shared m n k a)
        (λ r. change-unique-holds m n r k a) (change-holds m n k a)
        (λ r y e. rw r (change_unique_keeps m sound n r k a low y e))
        (λ h x e. go h x e (either (same_width (attributes_in k es) a)))
      where
        go : SharedAt m n → (x : Placed) → change_shared m n k a ≡ ok x
            → Decided (same_width (attributes_in k es) a) → Leads m n (by_change m n k a) x
        go h x e (inl wide) =
            let l = configure_led m sound n k h holds a key low may.below wide x e in
            led_leads n (by_change m n k a) l (rw wide) refl
            (equal_width_trail m sound n k h a wide) refl
        go h x e (inr wide) =
            let l = change_led m sound n k h holds a low wide x e in
            let other = shared-not-unique (shape_at m n) h in
            led_leads n (by_change m n k a) l (rw (wide, other))
            ((rolled_back m sound n k h holds).change a low).its_prototype
            (other_width_trail m sound n k h holds a wide) (base-root m sound n k h holds)

    pub removed-gives : (k : ℕ) → (SharedAt m n → has k es ≡ true)
        → (y : Placed) → removed m n k ≡ ok y → ChangesTo m n (by_removal m n k) y
    unfolding removed
    removed-gives k holds =
        change-gives n may.is_used (by_removal m n k) (remove_unique m n k) (remove_shared m n k)
        (λ r. remove_unique_holds m n r k) (removal-holds m n k)
        (λ r y e. rw r (remove_unique_keeps m sound n r k y e))
        (λ h x e.
        let other = shared-not-unique (shape_at m n) h in
        led_leads n (by_removal m n k) (removal_led m sound n k h (holds h) x e) (rw other)
        (rolled_back m sound n k h (holds h)).removal.its_prototype
        (removal-trail m sound n k h (holds h)) (base-root m sound n k h (holds h)))

    pub rebased-gives : (p : ℕ) (y : Placed) → rebased m n p ≡ ok y → ChangesTo m n (by_prototype m n p) y
    unfolding rebased
    rebased-gives p =
        change-gives n may.is_used (by_prototype m n p) (prototype_unique m n p) (step m n (prototype p))
        (λ r. prototype_unique_holds m n r p) (step-holds m n (prototype p))
        (λ r. prototype_unique_keeps m sound n r p)
        (λ h x e.
        let l = step_led m sound n h (prototype p) may.below (refl, refl, tt) x e in
        led_leads n (by_prototype m n p) l refl refl refl refl)
