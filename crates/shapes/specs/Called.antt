-- From a tested image to what a public call promises.
-- Assumes nothing.
use Rattle.std.specs.Prelude.{Bool, true, false, ◌&&◌, not, List, ◌≡◌, refl, ℕ}
use Rattle.std.proofs.Common.{true≢false, sym, ◌∙◌, ap}
use Rattle.std.proofs.Math.Path.{ap₂}
use Rattle.std.specs.Prelude.{if◌then◌else◌}
use Rattle.store.specs.Model.{Model}
use Rattle.store.specs.Layout.{words, parse, formattable, formatted}
use Rattle.store.specs.declared.Limits.{Limits}
use Rattle.store.specs.Image.{Formed}
use Rattle.store.specs.ListLaws.{and_both, all-passed}
use Rattle.rules.specs.declared.Refusal.TheVariants.{Damaged, BadSize}
use Rattle.rules.specs.Refusals.{Got, ok, refused, refuse, ◌>>◌}
use Rattle.rules.specs.Sound.{sound_model, sound_words, word_sentences, sound}
use Rattle.rules.specs.Calls.{Call, Answer, Done, Reply, No, Yes, perform, settle, call, call_on, format}
use Rattle.rules.specs.Replies.{Answers}
use Rattle.theorems.specs.Facts.{Sound}
use Rattle.theorems.specs.WordsKeep.{sound-read}
use Rattle.sound_tables.specs.Tidy.{tidy_formed}

abbrev pair : List ℕ → Reply → List ℕ × Reply
pair ws r = (ws, r)

-- Every lent word afterwards and the answer, for every list of words.
abbrev pub Calls : (before after : List ℕ) → Call → Reply → Type 0
Calls before after c r = pair after r ≡ call_on before c

-- No other words and no other answer meet that.
pub one_answer : (before : List ℕ) (c : Call) {after after₁ : List ℕ} {r r₁ : Reply} → Calls before after c r
    → Calls before after₁ c r₁ → (after ≡ after₁) × (r ≡ r₁)
one_answer before c this that = let same = this ∙ sym that in (ap (λ p. p.0) same, ap (λ p. p.1) same)

abbrev pub Formats : Limits → (before after : List ℕ) → Reply → Type 0
Formats l before after r = pair after r ≡ format l before

-- "BadSize": its event is what the header's code tests.
pub formats : (l : Limits) (before after : List ℕ) (fits : Bool) → fits ≡ formattable l before
    → after ≡ (if formattable l before then formatted l else before)
    → Formats l before after (if fits then Yes Done else No BadSize)
unfolding format
formats l before after fits is became = rw is (go (formattable l before) became)
  where
    go : (b : Bool) → after ≡ (if b then formatted l else before)
        → pair after (if b then Yes Done else No BadSize)
        ≡ settle before (refuse BadSize (not b) >> ok (formatted l, Done))
    go true e = ap (λ (vs : List ℕ). pair vs (Yes Done)) e
    go false e = ap (λ (vs : List ℕ). pair vs (No BadSize)) e

words-formed : (ws : List ℕ) → sound_words ws ≡ true → Formed ws
unfolding sound_words
words-formed ws e =
    let p = all-passed (word_sentences ws) e in
    tidy_formed ws p.0 p.1.0 p.1.1.0

module _ (ws : List ℕ) (is_sound : sound ws ≡ true) where
  parts : (sound_words ws ≡ true) × (sound_model (parse ws) ≡ true)
  unfolding sound
  parts = and_both (sound_words ws) is_sound

  -- What the calls below ask for.
  pub ready_formed : Formed ws
  ready_formed = words-formed ws parts.0

  pub ready_sound : Sound (parse ws)
  ready_sound = (sound-read ws is_sound).is_sound

  pub answered : (after : List ℕ) (c : Call) (r : Reply) → Answers ws after (perform (parse ws) c) r
      → Calls ws after c r
  unfolding call_on call
  answered after c r did = rw (parts.0, parts.1) (go (perform (parse ws) c) did)
    where
      go : (g : Got (Model × Answer)) → Answers ws after g r
          → pair after r ≡ pair (words (settle (parse ws) g).0) (settle (parse ws) g).1
      go (ok (m, a)) (became, its) = ap₂ pair became.laid its
      go (refused x) (same, its) = ap₂ pair (same ∙ ready_formed.laid) its

-- Damaged: "image not sound".
pub damaged : (ws : List ℕ) (c : Call) → sound ws ≡ false → Calls ws ws c (No Damaged)
unfolding sound call_on call
damaged ws c bad = go (sound_words ws) (sound_model (parse ws)) (λ e. (words-formed ws e).laid) bad
  where
    m : Model
    m = parse ws

    after : Bool → Bool → List ℕ × Reply
    after a b =
        let r = settle m (if b then perform m c else refused Damaged) in
        if a then (words r.0, r.1) else (ws, No Damaged)

    go : (a b : Bool) → (a ≡ true → ws ≡ words m) → (a && b) ≡ false → pair ws (No Damaged) ≡ after a b
    go true true laid e = absurd (true≢false e)
    go true false laid e = ap (λ (vs : List ℕ). pair vs (No Damaged)) (laid refl)
    go false b laid e = refl

-- What each public call is proved by.
pub ruleset call_lemmas = (ready_formed, ready_sound, answered, damaged)
