-- What the code makes of bytes: the image, the line that is begun and the bytes of the answers.
-- Assumes nothing.
use mathlib.Core.List.{List, [], ◌∷◌, ◌++◌, append-nil}
use Rattle.std.specs.Prelude.{◌≢◌, ◌≡◌, ℕ, ◌+◌, ◌*◌, ◌≤◌, ◌<◌, length, set}
use Rattle.std.proofs.Math.Path.{refl, ap₂}
use Rattle.std.proofs.Common.{sym, ◌∙◌, add-one, arith, ne_eqb, length-set, length-append, length-take-le, take_all, take-suc, take-suc-set}
use Rattle.std.proofs.Math.ListN.{get_or, take}
use Rattle.std.proofs.lemmas.List.{take-append-le}
use Rattle.store.specs.Model.{Model}
use Rattle.store.specs.Image.{Becomes, unchanged, and_then}
use Rattle.rules.specs.Runner.{line_feed, bad_line}
use Rattle.theorems.specs.Facts.{Sound}
use Rattle.lines.specs.Writing.{reply_text, Written}
use Rattle.lines.specs.declared.page.Page.{Page}
use Rattle.lines.specs.Pages.{Adds, adds_nothing, adds_then, adds_within}
use Rattle.stepping.specs.declared.blocks.BlockEnd.{BlockEnd}
use Rattle.stepping.specs.Answering.{Ready, Answered, ready_again}
use Rattle.stepping.specs.Input.{State, state, state_in, line_answer, byte_taken, byte_said, line-ends}
use Rattle.stepping.specs.Input.{line_goes_on, taken, said, taken_more, said_more, last_said}

-- ## Contracts

-- The first bytes of the line are kept in its 65.
pub record Kept (line : List ℕ) (begun : ℕ) (bytes : List ℕ) : Type 0 where
  pub long : length line ≡ 65
  pub few : begun ≤ 65
  pub these : take begun line ≡ bytes

-- A line is answered, and its answer is written from a position on.
pub record Ends
    (image₀ image out₀ out : List ℕ)
    (at : ℕ)
    (answer : Model × List ℕ)
    (end : ℕ)
    : Type 0 where
  pub became : Becomes image₀ image answer.0
  pub is_sound : Sound answer.0
  pub written : Written out₀ out at (reply_text answer.1) end

-- The image and the line are those of a state, and a text is written from a position on. No other byte of `out`
-- is changed; the line's bytes after those that are begun are of no meaning.
pub record Comes
    (image₀ image line out₀ out : List ℕ)
    (at : ℕ)
    (s : State)
    (text : List ℕ)
    (end : BlockEnd)
    : Type 0 where
  pub became : Becomes image₀ image s.model
  pub is_sound : Sound s.model
  pub kept : Kept line end.begun s.begun
  pub written : Written out₀ out at text end.written

-- The same on pages: the line's, and that of the answers, which a text of so many bytes at most follows.
pub record EndsOn (image₀ image : List ℕ) (out₀ out : Page) (answer : Model × List ℕ) : Type 0 where
  pub became : Becomes image₀ image answer.0
  pub is_sound : Sound answer.0
  pub added : Adds out₀ out (reply_text answer.1) 44

pub record ComesOn
    (image₀ image : List ℕ)
    (line₀ line out₀ out : Page)
    (s : State)
    (text : List ℕ)
    (most : ℕ)
    : Type 0 where
  pub became : Becomes image₀ image s.model
  pub is_sound : Sound s.model
  pub same_line : line.bytes.ghost_name ≡ line₀.bytes.ghost_name
  pub kept : Kept line.bytes.now line.end s.begun
  pub added : Adds out₀ out text most

pub comes_ready : {image₀ image line out₀ out text : List ℕ} {at : ℕ} {s : State} {end : BlockEnd}
    → Comes image₀ image line out₀ out at s text end → Ready image
comes_ready c = ready_again c.became c.is_sound

-- ## One byte

module _ (line : List ℕ) (begun byte : ℕ) (long : length line ≡ 65) where
  pub byte_dropped : begun ≡ 65 → Kept line begun (take 65 (take begun line ++ byte ∷ []))
  byte_dropped e =
      let n = length-take-le 65 line (omega (arith, long)) in
      record {
        long = long;
        few = omega arith;
        these = rw e
            (sym (take-append-le 65 (take 65 line) (byte ∷ []) (omega (arith, n))
            ∙ take_all 65 (take 65 line) (omega (arith, n))));
      }

  pub byte_kept : begun ≤ 65 → begun ≢ 65
      → Kept (set line begun byte) (begun + 1) (take 65 (take begun line ++ byte ∷ []))
  byte_kept l other =
      let below : begun < 65 = omega (arith, other) in
      let n = length-take-le begun line (omega (arith, long)) in
      record {
        long = length-set line begun byte ∙ long;
        few = omega arith;
        these = rw (add-one begun) (take-suc-set line begun byte (omega (arith, long)))
            ∙ sym (take_all 65 (take begun line ++ byte ∷ [])
            (omega (arith, n, length-append (take begun line) (byte ∷ []))));
      }

pub line-written : {image₀ image numbers : List ℕ} {out₀ out : Page} {answer : Model × List ℕ}
    → Answered image₀ image answer numbers → Adds out₀ out (reply_text numbers) 44
    → EndsOn image₀ image out₀ out answer
line-written a w =
    record { became = a.became; is_sound = a.is_sound; added = rw (sym a.its) w }

module _ (image₀ : List ℕ) (line₀ out₀ : Page) where
  abbrev s₀ : State
  s₀ = state_in image₀ line₀.bytes.now line₀.end

  pub took_end : {image : List ℕ} {line out : Page} {byte : ℕ}
      → line.bytes.ghost_name ≡ line₀.bytes.ghost_name → length line.bytes.now ≡ 65 → line.end ≡ 0
      → byte ≡ line_feed → EndsOn image₀ image out₀ out (line_answer s₀)
      → ComesOn image₀ image line₀ line out₀ out (byte_taken s₀ byte) (byte_said s₀ byte) 44
  took_end {line = line} {byte = byte} same long none_kept feed e =
      let (took, spoke) = line-ends s₀ byte feed in
      rw (took, spoke)
      record {
        became = e.became;
        is_sound = e.is_sound;
        same_line = same;
        kept = record { long = long; few = omega arith; these = rw none_kept };
        added = e.added;
      }

  pub took_byte : {line : Page} {byte : ℕ} → Ready image₀
      → line.bytes.ghost_name ≡ line₀.bytes.ghost_name → byte ≢ line_feed
      → Kept line.bytes.now line.end (take 65 (take line₀.end line₀.bytes.now ++ byte ∷ []))
      → ComesOn image₀ image₀ line₀ line out₀ out₀ (byte_taken s₀ byte) (byte_said s₀ byte) 44
  took_byte {byte = byte} ready same other k =
      let (took, spoke) = line_goes_on s₀ byte other in
      rw (took, spoke)
      record {
        became = unchanged ready.formed;
        is_sound = ready.is_sound;
        same_line = same;
        kept = k;
        added = adds_nothing out₀ 44;
      }

  -- ## A block

  module _ (block : List ℕ) where
    -- The first bytes of a block are taken, each with 44 bytes of answers at most.
    pub record TakenTo (image : List ℕ) (line out : Page) (i : ℕ) : Type 0 where
      pub within : i ≤ length block
      pub comes : ComesOn image₀ image line₀ line out₀ out (taken s₀ (take i block)) (said s₀ (take i block))
          (44 * i)

    pub none-taken : Ready image₀ → length line₀.bytes.now ≡ 65 → line₀.end ≤ 65
        → TakenTo image₀ line₀ out₀ 0
    unfolding taken said
    none-taken ready long few =
        record {
          within = omega arith;
          comes = record {
            became = unchanged ready.formed;
            is_sound = ready.is_sound;
            same_line = refl;
            kept = record { long = long; few = few; these = refl };
            added = adds_nothing out₀ 0;
          };
        }

    pub all-taken : {image : List ℕ} {line out : Page} (i : ℕ) → TakenTo image line out i
        → length block ≤ i → ComesOn image₀ image line₀ line out₀ out (taken s₀ block) (said s₀ block) (44 * i)
    all-taken i t l = rw (take_all i block l) at t.comes

    pub one_more : {image₁ image : List ℕ} {line₁ line out₁ out : Page} (i : ℕ)
        → TakenTo image₁ line₁ out₁ i → i < length block → let b = get_or block i 0 in
        let s₁ = state_in image₁ line₁.bytes.now line₁.end in
        ComesOn image₁ image line₁ line out₁ out (byte_taken s₁ b) (byte_said s₁ b) 44
        → TakenTo image line out (i + 1)
    unfolding taken said
    one_more {image₁} {image} {line₁} {line} {out₁} {out} i t l c =
        let b = get_or block i 0 in
        let s = taken s₀ (take i block) in
        let before = t.comes in
        let same : state_in image₁ line₁.bytes.now line₁.end ≡ s =
        ap₂ state before.became.parsed before.kept.these in
        let now : ComesOn image₁ image line₁ line out₁ out (byte_taken s b) (byte_said s b) 44 = rw same at c in
        let longer : take (i + 1) block ≡ take i block ++ b ∷ [] = rw (add-one i) (take-suc block i 0 l) in
        record {
          within = omega arith;
          comes = rw (longer, taken_more s₀ (take i block) (b ∷ []), said_more s₀ (take i block) (b ∷ []))
              record {
                became = and_then before.became now.became;
                is_sound = now.is_sound;
                same_line = now.same_line ∙ before.same_line;
                kept = now.kept;
                added = rw append-nil
                    (adds_within (44 * (i + 1)) (omega arith) (adds_then before.added now.added));
              };
        }

-- ## The end of the input

module _ (begun : ℕ) where
  pub ends_silent : (out : List ℕ) → begun ≡ 0 → Written out out 0 (last_said begun) 0
  ends_silent out e = rw e (record { stored = refl; ended = refl })

  pub ends-told : {out₀ out numbers : List ℕ} {end : ℕ} → begun ≢ 0 → numbers ≡ bad_line
      → Written out₀ out 0 (reply_text numbers) end → Written out₀ out 0 (last_said begun) end
  ends-told other bad w = rw (ne_eqb begun 0 other) (rw bad at w)
