-- Every call on a sound image, over its words: the image stays sound, its header's limits stay, and it is
-- read as the same call on the model.
-- Assumes nothing.
use Rattle.std.specs.Prelude.{true, List, ◌≡◌, ℕ}
use Rattle.std.proofs.Common.{◌∙◌, ap}
use Rattle.store.specs.Model.{Model, limits_of}
use Rattle.store.specs.Layout.{limits_in, good_limits, good_header, words, parse, laid_out}
use Rattle.store.specs.ListLaws.{◌and◌, and_both, both-and, all-passed, passed-all}
use Rattle.store.specs.ThereAndBack.{limits-words, limits-parse, parse-words, laid-words, fits-parse}
use Rattle.rules.specs.Sound.{word_sentences, sound_words, sound}
use Rattle.rules.specs.Calls.{Call, call, call_on}
use Rattle.theorems.specs.Facts.{Sound}
use Rattle.theorems.specs.SoundFacts.{sound_facts}
use Rattle.theorems.specs.FactsSound.{facts_sound}
use Rattle.theorems.specs.CallsKeep.{called}

-- ## Sound words and sound models

-- Sound words are read as a sound model with good limits,
pub record SoundRead (ws : List ℕ) : Type 0 where
  pub is_sound : Sound (parse ws)
  pub limits : good_limits (limits_of (parse ws)) ≡ true

pub sound-read : (ws : List ℕ) → sound ws ≡ true → SoundRead ws
unfolding sound sound_words laid_out
sound-read ws e =
    let (in_words, in_model) = and_both (sound_words ws) e in
    let (limits, (headed, (tidy, _))) = all-passed (word_sentences ws) in_words in
    record {
      is_sound = sound_facts (parse ws) (fits-parse ws (both-and headed tidy)) in_model;
      limits = ap good_limits (limits-parse ws) ∙ limits;
    }

-- and such a model is written as sound words.
words-sound : (m : Model) → Sound m → good_limits (limits_of m) ≡ true → sound (words m) ≡ true
unfolding sound sound_words laid_out
words-sound m s limits =
    let (fit, in_model) = facts_sound m s in
    let (headed, tidy) = and_both (good_header (words m)) (laid-words m fit) in
    let good = ap good_limits (limits-words m) ∙ limits in
    rw (passed-all (word_sentences (words m)) (good and headed and tidy and tt), parse-words m fit) in_model

-- ## A call

-- What a call does to sound words.
pub record SoundCall (ws : List ℕ) (c : Call) : Type 0 where
  pub is_sound : sound (call_on ws c).0 ≡ true
  pub same_limits : limits_in (call_on ws c).0 ≡ limits_in ws
  pub model : parse (call_on ws c).0 ≡ (call (parse ws) c).0
  pub reply : (call_on ws c).1 ≡ (call (parse ws) c).1

pub sound-call : (ws : List ℕ) (c : Call) → sound ws ≡ true → SoundCall ws c
unfolding sound call_on
sound-call ws c e =
    let m = parse ws in
    let before = sound-read ws e in
    let k = (called m before.is_sound c).keeps in
    let j = (call m c).0 in
    let after : (call_on ws c).0 ≡ words j = rw (and_both (sound_words ws) e).0 in
    record {
      is_sound = rw after (words-sound j k.is_sound (ap good_limits k.same_limits ∙ before.limits));
      same_limits = ap limits_in after ∙ limits-words j ∙ k.same_limits ∙ limits-parse ws;
      model = ap parse after ∙ parse-words j (facts_sound j k.is_sound).0;
      reply = rw (and_both (sound_words ws) e).0;
    }

-- "every call on a sound image" leaves "a sound image".
pub call_on-sound : (ws : List ℕ) (c : Call) → sound ws ≡ true → sound (call_on ws c).0 ≡ true
call_on-sound ws c e = (sound-call ws c e).is_sound
