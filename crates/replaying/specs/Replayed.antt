-- What is made of a standard input of which only this is known: that it came in blocks.
-- Assumes nothing.
use Rattle.std.specs.Prelude.{Bool, true, false, List, [], ◌∷◌, ◌++◌, ◌≡◌, ℕ, ◌≤◌, length, take}
use Rattle.std.proofs.Math.Path.{refl}
use Rattle.std.proofs.Common.{sym, ap, ap₂, ◌∙◌, arith, le-leb, length-take-le, take_at}
use Rattle.std.proofs.lemmas.List.Edits.{sets}
use Rattle.std.specs.Prelude.{if◌then◌else◌}
use Rattle.store.specs.Lists.{every}
use Rattle.store.specs.ListLaws.{both-and, every_append}
use Rattle.store.specs.Layout.{within, words, parse}
use Rattle.store.specs.Image.{Becomes, unchanged, and_then}
use Rattle.rules.specs.Runner.{runner}
use Rattle.lines.specs.Writing.{Written, rest_unchanged, length-kept}
use Rattle.stepping.specs.declared.blocks.BlockEnd.{BlockEnd}
use Rattle.stepping.specs.Answering.{Ready}
use Rattle.stepping.specs.Input.{State, state, state_in, taken, said, blocks_taken, blocks_said, last_said}
use Rattle.stepping.specs.Input.{runner_leaves, joined, text_of, blocks_answered, blocks_left}
use Rattle.stepping.specs.Taking.{Kept, Comes, comes_ready}

-- ## The promise

-- The image's model, and no line begun.
abbrev pub start_in : (image : List ℕ) → State
start_in image = state (parse image) []

abbrev pub block_sized : List ℕ → Bool
block_sized block = within 1 4096 (length block)

-- The answers to each block stand at the front of the lent bytes, over those to the block before.
unfoldable pub blocks_written : State → (out : List ℕ) → List (List ℕ) → List ℕ
blocks_written s out [] = out
blocks_written s out (block ∷ blocks) = blocks_written (taken s block) (sets out 0 (said s block)) blocks

-- There are blocks of 1 to 4,096 bytes that lead, taken one after the other, to every word of the image, to as many
-- bytes of a begun line and to every byte of `out`.
pub record Replayed (image₀ image out₀ out : List ℕ) (begun : ℕ) : Type 0 where
  pub blocks : List (List ℕ)
  pub sized : every block_sized blocks ≡ true
  pub became : Becomes image₀ image (blocks_taken (start_in image₀) blocks).model
  pub ready : Ready image
  pub begins : begun ≡ length (blocks_taken (start_in image₀) blocks).begun
  pub written : out ≡ blocks_written (start_in image₀) out₀ blocks

-- The same where a read or a write fails: the image and `out` are what some blocks lead to.
abbrev pub Stopped : (image₀ image out₀ out : List ℕ) → Type 0
Stopped image₀ image out₀ out = (begun : ℕ) × Replayed image₀ image out₀ out begun

-- ## What it means

module _ {image₀ image out₀ out : List ℕ} {begun : ℕ} (r : Replayed image₀ image out₀ out begun) where
  -- The image is the one that document 01's runner leaves for the bytes of all blocks;
  pub replayed-left : image ≡ words (runner_leaves (parse image₀) (joined r.blocks))
  replayed-left = r.became.laid ∙ ap words (blocks_left (parse image₀) r.blocks)

  -- and what that runner answers to them is what was said to the blocks, and then what `end_of_input` says.
  pub replayed_answered : blocks_said (start_in image₀) r.blocks ++ last_said begun
      ≡ text_of (runner (parse image₀) (joined r.blocks))
  replayed_answered = rw r.begins (blocks_answered (parse image₀) r.blocks)

-- ## What may be printed

-- The first bytes are what is said to some input.
pub record Printable (out : List ℕ) (count : ℕ) : Type 0 where
  pub inside : count ≤ length out
  pub from : State
  pub input : List ℕ
  pub these : take count out ≡ said from input

pub front_written : {out₀ out text : List ℕ} {end : ℕ} → Written out₀ out 0 text end → end ≤ length out₀
    → take end out ≡ text
front_written {out₀} {out} {text} {end} w room =
    rw (rest_unchanged w (omega (arith, w.ended))) (take_at text _ end (omega (arith, w.ended)))

pub answers_printable : {image₀ image line out₀ out : List ℕ} {s₁ : State} {end : BlockEnd}
    → (s : State) (block : List ℕ) → Comes image₀ image line out₀ out 0 s₁ (said s block) end
    → end.written ≤ length out₀ → (answered : Bool) {count : ℕ}
    → count ≡ (if answered then end.written else 0) → Printable out count
unfolding said
answers_printable s block c room true e =
    rw e
    record {
      inside = omega (arith, length-kept c.written);
      from = s;
      input = block;
      these = front_written c.written room;
    }
answers_printable s block c room false e =
    rw e record { inside = omega arith; from = s; input = []; these = refl }

-- ## The loop

taken_more_blocks : (s : State) (blocks : List (List ℕ)) (block : List ℕ)
    → blocks_taken s (blocks ++ block ∷ []) ≡ taken (blocks_taken s blocks) block
unfolding blocks_taken
taken_more_blocks s [] block = refl
taken_more_blocks s (b ∷ blocks) block = taken_more_blocks (taken s b) blocks block

written_more_blocks : (s : State) (out : List ℕ) (blocks : List (List ℕ)) (block : List ℕ)
    → blocks_written s out (blocks ++ block ∷ [])
    ≡ sets (blocks_written s out blocks) 0 (said (blocks_taken s blocks) block)
unfolding blocks_taken blocks_written
written_more_blocks s out [] block = refl
written_more_blocks s out (b ∷ blocks) block =
    written_more_blocks (taken s b) (sets out 0 (said s b)) blocks block

module _ (image₀ out₀ : List ℕ) where
  -- Some blocks are answered, and the bytes of the begun line are kept.
  pub record Replaying (image line out : List ℕ) (begun : ℕ) : Type 0 where
    pub replayed : Replayed image₀ image out₀ out begun
    pub kept : Kept line begun (blocks_taken (start_in image₀) replayed.blocks).begun
    pub room : length out ≡ length out₀

  pub nothing_read : {line : List ℕ} → Ready image₀ → length line ≡ 65 → Replaying image₀ line out₀ 0
  unfolding blocks_taken blocks_written
  nothing_read ready long =
      record {
        replayed = record {
          blocks = [];
          sized = refl;
          became = unchanged ready.formed;
          ready = ready;
          begins = refl;
          written = refl;
        };
        kept = record { long = long; few = omega arith; these = refl };
        room = refl;
      }

  pub block_read : {image₁ line₁ out₁ image line out : List ℕ} {begun : ℕ} {end : BlockEnd} (block : List ℕ)
      → Replaying image₁ line₁ out₁ begun → 1 ≤ length block → length block ≤ 4096
      → let s₁ = state_in image₁ line₁ begun in Comes image₁ image line out₁ out 0 (taken s₁ block) (said s₁ block) end
      → Replaying image line out end.begun
  block_read {image₁} {line₁} {out₁} {image} {line} {out} {begun} {end} block before some few c =
      let r = before.replayed in
      let s = blocks_taken (start_in image₀) r.blocks in
      let same : state_in image₁ line₁ begun ≡ s = ap₂ state r.became.parsed before.kept.these in
      let now : Comes image₁ image line out₁ out 0 (taken s block) (said s block) end = rw same at c in
      let all = r.blocks ++ block ∷ [] in
      let next : blocks_taken (start_in image₀) all ≡ taken s block =
      taken_more_blocks (start_in image₀) r.blocks block in
      let kept = now.kept in
      record {
        replayed = record {
          blocks = all;
          sized = every_append block_sized r.blocks (block ∷ []) r.sized
              (both-and (both-and (le-leb 1 (length block) some) (le-leb (length block) 4096 few)) refl);
          became = rw next (and_then r.became now.became);
          ready = comes_ready now;
          begins = rw next (sym (length-take-le end.begun line (omega arith)) ∙ ap length kept.these);
          written = now.written.stored
              ∙ rw r.written (sym (written_more_blocks (start_in image₀) out₀ r.blocks block));
        };
        kept = rw next kept;
        room = length-kept now.written ∙ before.room;
      }
