-- Steps taken one after the other, each legal in its turn; and with them the removal and the change of a key
-- of a shared shape.
-- Assumes nothing.
use Rattle.std.specs.Prelude.{true, false, List, [], ◌∷◌, ◌++◌, ◌≡◌, refl, ℕ, suc, ◌+◌, ◌≤◌, ◌<◌, length}
use Rattle.std.proofs.Common.{append-nil, append_assoc, sym, ◌∙◌, ap, arith, length-append}
use Rattle.std.proofs.lemmas.Bool.{not-true}
use Rattle.slot.specs.Attributes.{good_attributes, same_width}
use Rattle.store.specs.Model.{Model, shape_at}
use Rattle.store.specs.ListLaws.{and_both, both-and}
use Rattle.store.specs.declared.Shape.{Shape}
use Rattle.store.specs.declared.Entry.{Entry}
use Rattle.rules.specs.Numbers.{good_key}
use Rattle.rules.specs.Shapes.{has, attributes_in}
use Rattle.rules.specs.Refusals.{ok}
use Rattle.rules.specs.Steps.{Step, insert, configure, prototype, may_step, edge_of, Placed, step, steps}
use Rattle.rules.specs.Steps.{rollback, remove_shared, change_shared}
use Rattle.rules.specs.Sound.{good_label}
use Rattle.rules.specs.Trails.{trail, root}
use Rattle.rules.proofs.Settled.{same_given}
use Rattle.rules.specs.InUse.{shared_used}
use Rattle.theorems.specs.Facts.{Used, Sound}
use Rattle.theorems.specs.Frame.{Keeps, keeps_self, keeps_again, kept_used, kept-root}
use Rattle.theorems.specs.Taken.{bind_passed}
use Rattle.theorems.specs.Stepped.{step_took}
use Rattle.theorems.specs.Made.{SharedAt, entries_at, prototype_at, transitions_at, good_step, made}
use Rattle.theorems.specs.InTurn.{steps_entries, steps_prototype, LegalInTurn, entries-append}
use Rattle.theorems.specs.InTurn.{prototype_append}
use Rattle.theorems.specs.SameTrail.{trail-before, root_before}
use Rattle.theorems.specs.Rollback.{RolledBack, rolled_back}

-- ## Statements

-- What the steps ts from the shape at n leave: a sound model in which every shape in use is kept, and at its
-- place a shared shape with the contents that the steps lead to, whose trail is n's trail and then the steps.
pub record Led (m : Model) (n : ℕ) (ts : List Step) (y : Placed) : Type 0 where
  pub keeps : Keeps m y.0 (Used m)
  pub is_shared : SharedAt y.0 y.1
  pub its_count : transitions_at y.0 y.1 ≡ transitions_at m n + length ts
  pub its_entries : entries_at y.0 y.1 ≡ steps_entries ts (entries_at m n)
  pub its_prototype : prototype_at y.0 y.1 ≡ steps_prototype ts (prototype_at m n)
  pub its_trail : trail y.0 y.1 ≡ trail m n ++ ts
  pub its_root : root y.0 y.1 ≡ root m n

-- ## No step, and steps after steps

led_self : (m : Model) → Sound m → (n : ℕ) → SharedAt m n → Led m n [] (m, n)
led_self m sound n h =
    record {
      keeps = keeps_self sound;
      is_shared = h;
      its_count = omega arith;
      its_entries = refl;
      its_prototype = refl;
      its_trail = sym (append-nil (trail m n));
      its_root = refl;
    }

led_again : {m : Model} {n : ℕ} {ts us : List Step} {x y : Placed} → Led m n ts x → Led x.0 x.1 us y
    → Led m n (ts ++ us) y
led_again {m} {n} {ts} {us} a b =
    record {
      keeps = keeps_again a.keeps (λ k u kept. kept_used u kept) b.keeps;
      is_shared = b.is_shared;
      its_count = omega (arith, a.its_count, b.its_count, length-append ts us);
      its_entries =
          b.its_entries ∙ ap (steps_entries us) a.its_entries ∙ sym (entries-append ts us (entries_at m n));
      its_prototype =
          b.its_prototype
          ∙ ap (steps_prototype us) a.its_prototype
          ∙ sym (prototype_append ts us (prototype_at m n));
      its_trail =
          b.its_trail ∙ ap (λ (vs : List Step). vs ++ us) a.its_trail ∙ append_assoc (trail m n) ts us;
      its_root = b.its_root ∙ a.its_root;
    }

-- ## One step

-- A good step that may be taken has a good edge.
pub good_label_lem : (n : ℕ) (t : Step) (es : List Entry) → good_step t ≡ true → may_step t es ≡ true
    → good_label es (edge_of n t 0) ≡ true
good_label_lem n (insert k a) es good may = both-and good (rw (not-true (has k es) may))
good_label_lem n (configure k a) es good may =
    let (held, wide) = and_both (has k es) may in
    both-and good (rw (held, wide))
good_label_lem n (prototype p) es good may = refl

module _ (m : Model) (sound : Sound m) (n : ℕ) (is_shared : SharedAt m n) where
  pub step_led : (t : Step) → transitions_at m n < 1024 → LegalInTurn (t ∷ []) (entries_at m n)
      → (y : Placed) → step m n t ≡ ok y → Led m n (t ∷ []) y
  step_led t below (good, may, _) y e =
      let label = good_label_lem n t (entries_at m n) good may in
      let took = step_took m sound n t record {
        is_shared = is_shared;
        below = below;
        may = may;
        label = label;
      } y e in
      let j = y.0 in
      let kept = took.keeps.keeps n (shared_used (shape_at m n) is_shared) in
      let same_prototype : prototype_at j n ≡ prototype_at m n
      = ap (λ (s : Shape). s.prototype) kept.same_core in
      let count : transitions_at j y.1 ≡ suc (transitions_at m n) = omega (arith, took.one_more) in
      let after = took.keeps.is_sound in
      let c = y.1 in
      let by = rw took.its_step at (made j after c (transitions_at m n) took.is_shared count) in
      record {
        keeps = took.keeps;
        is_shared = took.is_shared;
        its_count = took.one_more;
        its_entries = by.its_entries ∙ rw (took.previous, kept.same_entries);
        its_prototype = by.its_prototype ∙ rw (took.previous, same_prototype);
        its_trail =
            trail-before j after c (transitions_at m n) took.is_shared count
            ∙ rw (took.its_step, took.previous, kept.same_trail);
        its_root =
            root_before j after c (transitions_at m n) took.is_shared count
            ∙ rw took.previous (kept-root kept);
      }

-- ## Steps in a row

steps_led : (ts : List Step) (m : Model) → Sound m → (n : ℕ) → SharedAt m n
    → LegalInTurn ts (entries_at m n) → transitions_at m n + length ts ≤ 1024
    → (y : Placed) → steps ts m n ≡ ok y → Led m n ts y
unfolding steps
steps_led [] m sound n h legal few y e = rw (← same_given e) (led_self m sound n h)
steps_led (t ∷ ts) m sound n h (good, may, rest) few y e =
    let b = bind_passed (step m n t) _ y e in
    let first = step_led m sound n h t (omega arith) (good, may, tt) b.result b.gave in
    let count = first.its_count in
    led_again first
    (steps_led ts b.result.0 first.keeps.is_sound b.result.1 first.is_shared
    (rw first.its_entries rest) (omega arith) y b.below)

-- ## Removal and change of a held key

module _ (m : Model) (sound : Sound m) (n k : ℕ) (is_shared : SharedAt m n)
    (holds : has k (entries_at m n) ≡ true) where
  rolled : RolledBack m n k (rollback m n k)
  rolled = rolled_back m sound n k is_shared holds

  most : transitions_at m n ≤ 1024
  most = (sound.shapes n (shared_used (shape_at m n) is_shared)).words.transitions

  -- "Removal: base, then the remembered prototype if there was one, then yielded keys in their old order."
  pub removal_led : (y : Placed) → remove_shared m n k ≡ ok y
      → let b = rollback m n k in Led m b.base (b.newest ++ b.yielded) y
  unfolding remove_shared
  removal_led y e =
      let b = rollback m n k in
      steps_led (b.newest ++ b.yielded) m sound b.base rolled.found.base_shared
      rolled.removal.legal (omega (arith, rolled.shorter, most)) y e

  -- "Change of width: base, prototype, the key with new attributes, then the yielded keys".
  pub change_led : (a : ℕ) → good_attributes a ≡ true → same_width (attributes_in k (entries_at m n)) a ≡ false
      → (y : Placed) → change_shared m n k a ≡ ok y
      → let b = rollback m n k in Led m b.base (b.newest ++ insert k a ∷ b.yielded) y
  unfolding change_shared
  change_led a low wide y e =
      let b = rollback m n k in
      steps_led (b.newest ++ insert k a ∷ b.yielded) m sound b.base rolled.found.base_shared
      (rolled.change a low).legal (omega (arith, rolled.no_longer a, most)) y (rw wide at e)

  -- "Change at equal width: one configure step".
  pub configure_led : (a : ℕ) → good_key k ≡ true → good_attributes a ≡ true → transitions_at m n < 1024
      → same_width (attributes_in k (entries_at m n)) a ≡ true
      → (y : Placed) → change_shared m n k a ≡ ok y → Led m n (configure k a ∷ []) y
  unfolding change_shared
  configure_led a key low below wide y e =
      let may = both-and holds wide in
      step_led m sound n is_shared (configure k a) below (both-and key low, may, tt) y (rw wide at e)
