-- The limit of 1,024 transitions, as a caller hears it: a trail of 1,023 steps is shared, one step more leads to a
-- unique, and a removal or a change of width never does. For the log of any calls on a formatted image.
-- Assumes nothing.
use Rattle.std.specs.Prelude.{true, false, not, List, [], ◌∷◌, ◌++◌, ◌≢◌, ◌≡◌, ℕ, ◌+◌, ◌<◌, eqb, length}
use Rattle.std.proofs.Common.{inl, inr, sym, ◌∙◌, arith, eqb-true, eq-eqb, ne_eqb, length-append}
use Rattle.std.proofs.Math.Path.{refl, ap}
use Rattle.std.proofs.lemmas.Bool.{not-false}
use Rattle.slot.specs.Attributes.{good_attributes, same_width}
use Rattle.store.specs.Model.{Model, shape_at}
use Rattle.store.specs.Layout.{parse}
use Rattle.store.specs.ListLaws.{Decided, either}
use Rattle.store.specs.declared.Limits.{Limits}
use Rattle.rules.specs.declared.ChangeTransitionAction.{ChangeTransitionAction}
use Rattle.rules.specs.declared.Refusal.TheVariants.{BadKey, BadAttributes, NoShape, Absent}
use Rattle.rules.specs.Numbers.{good_key}
use Rattle.rules.specs.Shapes.{has, attributes_in}
use Rattle.rules.proofs.Settled.{guard_passed}
use Rattle.rules.specs.Steps.{Step, insert, configure, prototype}
use Rattle.rules.specs.Calls.{Call, insert_key, change_key, remove_key, change_prototype, ask, transitions_of, Given}
use Rattle.rules.specs.Calls.{Done, Number, Yes, unheld, perform, call, call_on, format}
use Rattle.theorems.specs.Facts.{Sound, used_place}
use Rattle.theorems.specs.Made.{entries_at}
use Rattle.theorems.specs.SameTrail.{trail-length, trail_contents}
use Rattle.theorems.specs.CallsKeep.{HeldAt, held_used, call-sound}
use Rattle.theorems.specs.CallsDo.{Says, performs, insert_does, change_does, removal_does, prototype_does}
use Rattle.theorems.specs.WordsKeep.{sound-read, sound-call}
use Rattle.theorems.specs.Demand3.{after_calls}
use Rattle.theorems.specs.TrailRules.{entries_of_trail, trail_without, trail_widened, trail_changed}
use Rattle.theorems.specs.TrailLaws.{without_no_longer, widened_no_longer}
use Rattle.theorems.specs.CallersLog.{Logged, no_trail, trailed, Line, line, Log, ◌∈◌, written, from_shape}
use Rattle.theorems.specs.CallersLog.{source, leading, log_after, log_of, heard}
use Rattle.theorems.specs.LogRight.{line-held}
use Rattle.theorems.specs.Demand3Heard.{AnswersLine, Demand3Heard, right_over, right_says, now-sound}
use Rattle.theorems.specs.Demand3Heard.{log_right}

-- ## Statements

-- The log l has a line of the number x that says e, and the shape answers so in the words ws: with its trail, or
-- as a unique (`AnswersLine`).
abbrev pub Logs : (ws : List ℕ) (l : Log) (x : ℕ) → Logged → Type 0
Logs ws l x e = (line x e ∈ l.lines) × AnswersLine ws x e

-- The calls that take one step from the shape n with the trail ts.
pub data TakesStep (n : ℕ) (ts : List Step) : Call → Step → Type 0 where
  inserting : (k a : ℕ) → TakesStep n ts (insert_key n k a) (insert k a)
  rebasing : (p : ℕ) → TakesStep n ts (change_prototype n p) (prototype p)
  changing : (k a : ℕ) → same_width (attributes_in k (entries_of_trail ts)) a ≡ true
      → TakesStep n ts (change_key n k a) (configure k a)

-- ## The log after any calls

-- What is written of a number is one of its lines.
pub written_in : (xs : List Line) (n r : ℕ) (ts : List Step) → written xs n ≡ trailed r ts
    → line n (trailed r ts) ∈ xs
written_in [] n r ts e = let z : ◌≡◌ {A = ℕ} 0 1 = cc in absurd (omega arith)
written_in (x ∷ xs) n r ts e = go (written_in xs n r ts) (either (eqb x.number n))
  where
    go : (written xs n ≡ trailed r ts → line n (trailed r ts) ∈ xs) → Decided (eqb x.number n)
        → line n (trailed r ts) ∈ (x ∷ xs)
    go later (inl q) = inl (rw (← eqb-true x.number n q, ← rw q at e) refl)
    go later (inr q) = inr (later (rw q at e))

module _ (l : Limits) (ws : List ℕ) (e : (format l ws).1 ≡ Yes Done) (cs : List Call) where
  abbrev now : List ℕ
  now = after_calls (format l ws).0 cs

  abbrev log : Log
  log = log_of (heard (format l ws).0 cs)

  m-sound : Sound (parse now)
  m-sound = (sound-read now (now-sound l ws e cs)).is_sound

  -- No trail of the log has more than 1,023 steps.
  pub trail_limit : (x : Line) → x ∈ log.lines → (r : ℕ) (ts : List Step) → x.says ≡ trailed r ts
      → length ts < 1024
  trail_limit x there r ts its =
      let m = parse now in
      let n = x.number in
      let right = log_right l ws e cs in
      let is_held = line-held m m-sound log right x there in
      let (h, told, _) = rw its at (right.each x there) in
      let s = m-sound.shapes n (held_used m m-sound n is_held) in
      let long = sym (trail-length m n) ∙ ap length told in
      let most = s.words.transitions in
      let few : (shape_at m n).transitions ≢ 1024 = λ full. is_held (s.limits.unheld full) in
      omega arith

  -- ## One call more

  -- The log says of the number n that its shape has the trail ts; a call on it is answered by the shape x.
  module _ (n r : ℕ) (ts : List Step) (logged : written log.lines n ≡ trailed r ts) where
    logged_in : line n (trailed r ts) ∈ log.lines
    logged_in = written_in log.lines n r ts logged

    few : length ts < 1024
    few = trail_limit (line n (trailed r ts)) logged_in r ts refl

    -- A change that is answered is of a key that the trail leads to.
    changed-holds : (k a : ℕ) {j : Model} {x : ℕ} {action : ChangeTransitionAction} {count : ℕ}
        → Says (parse now) (change_key n k a) j x action count → has k (entries_of_trail ts) ≡ true
    unfolding perform
    changed-holds k a said =
        let m = parse now in
        let (h, told, _) = (log_right l ws e cs).each (line n (trailed r ts)) logged_in in
        let es = (trail_contents m m-sound n h).its_entries ∙ ap entries_of_trail told in
        let (_, e₁) = guard_passed BadKey (not (good_key k)) _ _ (performs m m-sound (change_key n k a) said) in
        let (_, e₂) = guard_passed BadAttributes (not (good_attributes a)) _ _ e₁ in
        let (_, e₃) = guard_passed NoShape (unheld m n) _ _ e₂ in
        let (there, _) = guard_passed Absent (not (has k (entries_at m n))) _ _ e₃ in
        rw es at (not-false (has k (entries_at m n)) there)

    module _ (c : Call) {x : ℕ} {action : ChangeTransitionAction} {count : ℕ}
        (given : (call_on now c).1 ≡ Yes (Given x action count)) where
      abbrev after : List ℕ
      after = (call_on now c).0

      abbrev next : Log
      next = log_after c (call_on now c).1 log

      says : Says (parse now) c (call (parse now) c).0 x action count
      says = ap (λ r. ((call (parse now) c).0, r)) (sym (sound-call now c (now-sound l ws e cs)).reply ∙ given)

      next-heard : Demand3Heard after next
      next-heard =
          let s = now-sound l ws e cs in
          right_says after (sound-call now c s).is_sound next (right_over now (c ∷ []) log s (log_right l ws e cs))

      module _ (f : List Step → List Step) (by : source c ≡ from_shape n f)
          (is_held : HeldAt (call (parse now) c).0 x) where
        place : x ≢ 0
        place =
            let j = (call (parse now) c).0 in
            used_place j x (held_used j (call-sound (parse now) c m-sound) x is_held)

        new_in : (entry : Logged) → leading f (trailed r ts) ≡ entry → line x entry ∈ next.lines
        new_in entry its = rw (given, by, logged, ne_eqb x 0 place, its) (inl refl)

        -- What the log then says of x is right.
        leads : (entry : Logged) → leading f (trailed r ts) ≡ entry → Logs after next x entry
        leads entry its = let there = new_in entry its in (there, next-heard.answers (line x entry) there)

        leads-shared : length (f ts) ≢ 1024 → Logs after next x (trailed r (f ts))
        leads-shared below = leads (trailed r (f ts)) (rw (ne_eqb (length (f ts)) 1024 below))

    -- ## One step more

    record By (c : Call) (t : Step) (x : ℕ) : Type 0 where
      f : List Step → List Step
      is_source : source c ≡ from_shape n f
      its_trail : f ts ≡ ts ++ t ∷ []
      is_held : HeldAt (call (parse now) c).0 x

    takes_by : {x : ℕ} {action : ChangeTransitionAction} {count : ℕ} (c : Call) (t : Step) → TakesStep n ts c t
        → Says (parse now) c (call (parse now) c).0 x action count → By c t x
    unfolding trail_changed
    takes_by c t (inserting k a) said =
        record {
          f = λ us. us ++ insert k a ∷ [];
          is_source = refl;
          its_trail = refl;
          is_held = (insert_does (parse now) m-sound n k a said).answered.is_held;
        }
    takes_by c t (rebasing p) said =
        record {
          f = λ us. us ++ prototype p ∷ [];
          is_source = refl;
          its_trail = refl;
          is_held = (prototype_does (parse now) m-sound n p said).answered.is_held;
        }
    takes_by c t (changing k a same) said =
        record {
          f = λ us. trail_changed us k a;
          is_source = refl;
          its_trail = rw same;
          is_held = (change_does (parse now) m-sound n k a said).0.answered.is_held;
        }

    module _ {c : Call} {t : Step} (takes : TakesStep n ts c t) {x : ℕ} {action : ChangeTransitionAction}
        {count : ℕ} (given : (call_on now c).1 ≡ Yes (Given x action count)) where
      by : By c t x
      by = takes_by c t takes (says c given)

      long : length (by.f ts) ≡ length ts + 1
      long = ap length by.its_trail ∙ length-append ts (t ∷ [])

      -- Up to 1,023 steps, the answer has the trail with that step,
      pub step-shared : length ts < 1023
          → Logs (after c given) (next c given) x (trailed r (ts ++ t ∷ []))
      step-shared below =
          let fits : length (by.f ts) ≢ 1024 = λ full. omega (arith, long, full) in
          rw by.its_trail at (leads-shared c given by.f by.is_source by.is_held fits)

      -- the longest with 1,023 transitions,
      pub step_1023 : length ts ≡ 1022 → (call_on (after c given) (ask x transitions_of)).1 ≡ Yes (Number 1023)
      step_1023 its =
          let told = (step-shared (omega arith)).1.count in
          rw (length-append ts (t ∷ []), its) at told

      -- and one step more leads to a unique.
      pub step_1024 : length ts ≡ 1023 → Logs (after c given) (next c given) x no_trail
      step_1024 its =
          let full : length (by.f ts) ≡ 1024 = omega (arith, long) in
          leads c given by.f by.is_source by.is_held no_trail (rw (eq-eqb (length (by.f ts)) 1024 full))

    -- ## A removal and a change of width

    -- They lead to no longer trail, and so never to a unique.
    pub removal-shared : (k : ℕ) {x : ℕ} {action : ChangeTransitionAction} {count : ℕ}
        → (given : (call_on now (remove_key n k)).1 ≡ Yes (Given x action count))
        → Logs (after (remove_key n k) given) (next (remove_key n k) given) x (trailed r (trail_without ts k))
    removal-shared k given =
        let short = without_no_longer ts k in
        let did = removal_does (parse now) m-sound n k (says (remove_key n k) given) in
        leads-shared (remove_key n k) given (λ us. trail_without us k) refl did.answered.is_held
        (λ full. omega (arith, few, short, full))

    pub width-shared : (k a : ℕ) → same_width (attributes_in k (entries_of_trail ts)) a ≡ false
        → {x : ℕ} {action : ChangeTransitionAction} {count : ℕ}
        → (given : (call_on now (change_key n k a)).1 ≡ Yes (Given x action count))
        → Logs (after (change_key n k a) given) (next (change_key n k a) given) x (trailed r (trail_widened ts k a))
    unfolding trail_changed
    width-shared k a other given =
        let e = says (change_key n k a) given in
        let holds = changed-holds k a e in
        let short = widened_no_longer ts k a holds in
        let did = (change_does (parse now) m-sound n k a e).0 in
        rw other at
        (leads-shared (change_key n k a) given (λ us. trail_changed us k a) refl did.answered.is_held
        (rw other (λ full. omega (arith, few, short, full))))
