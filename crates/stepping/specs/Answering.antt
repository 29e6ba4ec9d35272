-- One line: what the runner makes of it, and that no call asks for a test of the image before the next.
-- Assumes nothing.
use Rattle.std.specs.Prelude.{true, List, ◌≡◌, ℕ, length}
use Rattle.std.proofs.Math.Option.{Option, none, some}
use Rattle.std.proofs.Common.{sym, ◌∙◌, arith, eq-eqb}
use Rattle.std.proofs.Math.Path.{ap}
use Rattle.std.proofs.lemmas.List.{length-replicate}
use Rattle.std.specs.Prelude.{if◌then◌else◌}
use Rattle.store.specs.Model.{Model, free, no_shape, no_edge, blank}
use Rattle.store.specs.Layout.{parse, formattable, formatted}
use Rattle.store.specs.ThereAndBack.{blank-words, fits-blank}
use Rattle.store.specs.Image.{Formed, Lays, Becomes, unchanged}
use Rattle.rules.proofs.Formatted.{blank-sound, formatted-read}
use Rattle.rules.specs.Refusals.{Got, ok, refused}
use Rattle.rules.specs.Calls.{Call, Answer, Reply, perform, settle, call}
use Rattle.rules.specs.Replies.{Answers}
use Rattle.rules.specs.Runner.{runner_limits, four_numbers, bad_line}
use Rattle.theorems.specs.Facts.{Sound}
use Rattle.theorems.specs.SoundFacts.{sound_facts}
use Rattle.theorems.specs.FactsSound.{facts_sound}
use Rattle.theorems.specs.CallsKeep.{call-sound}

-- "Each line is answered by four numbers"; a bad line changes nothing, "and the next is read".
abbrev pub answer_to : Model → Option Call → Model × List ℕ
answer_to m none = (m, bad_line)
answer_to m (some c) = let r = call m c in (r.0, four_numbers r.1)

-- An image that calls may follow on, without a test.
pub record Ready (ws : List ℕ) : Type 0 where
  pub formed : Formed ws
  pub is_sound : Sound (parse ws)

-- The image has become the layout of the answer's model, which is sound; the numbers are the answer's.
pub record Answered (before after : List ℕ) (answer : Model × List ℕ) (numbers : List ℕ) : Type 0 where
  pub became : Becomes before after answer.0
  pub is_sound : Sound answer.0
  pub its : numbers ≡ answer.1

pub ready_again : {before after : List ℕ} {m : Model} → Becomes before after m → Sound m → Ready after
ready_again b s = record { formed = b.formed; is_sound = rw b.parsed s }

module _ {ws : List ℕ} (ready : Ready ws) where
  pub bad_answered : {numbers : List ℕ} → numbers ≡ bad_line → Answered ws ws (answer_to (parse ws) none) numbers
  bad_answered e = record { became = unchanged ready.formed; is_sound = ready.is_sound; its = e }

  -- "every call on a sound image" leaves "a sound image".
  pub call_answered : (c : Call) {after numbers : List ℕ} (r : Reply)
      → Answers ws after (perform (parse ws) c) r → numbers ≡ four_numbers r
      → Answered ws after (answer_to (parse ws) (some c)) numbers
  unfolding call
  call_answered c {after} r did e =
      let settled : Becomes ws after (call (parse ws) c).0 × (r ≡ (call (parse ws) c).1) =
      rw (facts_sound (parse ws) ready.is_sound).1 (go (perform (parse ws) c) did) in
      record {
        became = settled.0;
        is_sound = call-sound (parse ws) c ready.is_sound;
        its = e ∙ ap four_numbers settled.1;
      }
    where
      go : (g : Got (Model × Answer)) → Answers ws after g r
          → Becomes ws after (settle (parse ws) g).0 × (r ≡ (settle (parse ws) g).1)
      go (ok (m, a)) (became, its) = (became, its)
      go (refused x) (same, its) = (rw same (unchanged ready.formed), its)

-- ## The runner's image

-- "6,952 words" are what its limits ask for.
runner-formattable : (ws : List ℕ) → length ws ≡ 6952 → formattable runner_limits ws ≡ true
runner-formattable ws e = eq-eqb (length ws) 6952 e

runner_ready : Ready (formatted runner_limits)
runner_ready =
    let l = runner_limits in
    let m = blank l in
    let laid : Lays (formatted l) m = record {
      laid = sym (blank-words l);
      roomy = fits-blank l;
      limited = record {
        shapes = omega (arith, length-replicate 256 no_shape);
        tables = omega (arith, length-replicate 32 free);
        keys = omega arith;
        edges = omega (arith, length-replicate 256 no_edge);
      };
    } in
    let is_sound = sound_facts m (fits-blank l) (blank-sound l) in
    record { formed = rw (formatted-read l) laid; is_sound = rw (formatted-read l) is_sound }

-- What the runner starts with.
pub record Starts (ws : List ℕ) : Type 0 where
  pub blank : ws ≡ formatted runner_limits
  pub ready : Ready ws

pub starts : (before : List ℕ) {after : List ℕ} → length before ≡ 6952
    → after ≡ (if formattable runner_limits before then formatted runner_limits else before) → Starts after
starts before {after} long e =
    let written : after ≡ formatted runner_limits = rw (runner-formattable before long) at e in
    record { blank = written; ready = rw written runner_ready }

pub starts_read : {ws : List ℕ} → Starts ws → parse ws ≡ blank runner_limits
starts_read s = ap parse s.blank ∙ formatted-read runner_limits
