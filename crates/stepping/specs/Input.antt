-- Input byte by byte: what the runner has come to, and what it says. For every list of blocks it leaves and says
-- what document 01's runner leaves and answers to their bytes one after the other.
-- Assumes nothing.
use Rattle.std.specs.Prelude.{Bool, true, false, ◌≢◌, ◌≡◌, ℕ, eqb, ltb, length, take}
use mathlib.Core.List.{List, [], ◌∷◌, ◌++◌, append-nil, append_assoc}
use Rattle.std.proofs.Math.Option.{Option, none, some}
use Rattle.std.proofs.Common.{inl, inr, sym, ◌∙◌, arith, length-take-le, take_all}
use Rattle.std.proofs.Math.Path.{refl, ap}
use borrow.Author.Tests.{lt-ltb, ltb-true, ltb-false, ne_eqb, eqb-true, eqb-false}
use Rattle.std.proofs.lemmas.List.{take-append-le}
use Rattle.std.proofs.Math.Seq.{append_snoc}
use Rattle.std.specs.Prelude.{if◌then◌else◌}
use Rattle.store.specs.Model.{Model}
use Rattle.store.specs.Layout.{parse}
use Rattle.store.specs.ListLaws.{Decided, either}
use Rattle.rules.specs.Calls.{Call}
use Rattle.rules.specs.Runner.{line_feed, on_first, parts, line_call, input_calls, bad_line, replies, runner}
use Rattle.lines.specs.Writing.{reply_text}
use Rattle.stepping.specs.Answering.{answer_to}

-- The model, and the first bytes of the line that is begun.
pub record State : Type 0 where
  pub model : Model
  pub begun : List ℕ

abbrev pub state : Model → List ℕ → State
state m begun = record { model = m; begun = begun }

-- What an image and the first bytes of a line say.
abbrev pub state_in : (image line : List ℕ) (begun : ℕ) → State
state_in image line begun = state (parse image) (take begun line)

-- ## One byte

abbrev pub line_answer : State → Model × List ℕ
line_answer s = answer_to s.model (line_call s.begun)

-- "ended by a line feed, at most 64 bytes without it": 65 bytes already are too many, so no more are kept.
abbrev pub kept_byte : State → ℕ → State
kept_byte s b = state s.model (take 65 (s.begun ++ b ∷ []))

unfoldable pub byte_taken : State → ℕ → State
byte_taken s b = if eqb b line_feed then state (line_answer s).0 [] else kept_byte s b

unfoldable pub byte_said : State → ℕ → List ℕ
byte_said s b = if eqb b line_feed then reply_text (line_answer s).1 else []

module _ (s : State) (b : ℕ) where
  pub line-ends : b ≡ line_feed
      → (byte_taken s b ≡ state (line_answer s).0 []) × (byte_said s b ≡ reply_text (line_answer s).1)
  unfolding byte_taken byte_said
  line-ends e = (rw e refl, rw e refl)

  pub line_goes_on : b ≢ line_feed → (byte_taken s b ≡ kept_byte s b) × (byte_said s b ≡ [])
  unfolding byte_taken byte_said
  line_goes_on e = let other = ne_eqb b line_feed e in (rw other refl, rw other refl)

-- ## A block, and all of them

unfoldable pub taken : State → List ℕ → State
taken s [] = s
taken s (b ∷ bs) = taken (byte_taken s b) bs

unfoldable pub said : State → List ℕ → List ℕ
said s [] = []
said s (b ∷ bs) = byte_said s b ++ said (byte_taken s b) bs

-- What blocks one after the other lead to, and what is said to them.
unfoldable pub blocks_taken : State → List (List ℕ) → State
blocks_taken s [] = s
blocks_taken s (block ∷ blocks) = blocks_taken (taken s block) blocks

unfoldable pub blocks_said : State → List (List ℕ) → List ℕ
blocks_said s [] = []
blocks_said s (block ∷ blocks) = said s block ++ blocks_said (taken s block) blocks

-- At the end of the input: "an unended last one too, is BadLine".
abbrev pub last_said : (begun : ℕ) → List ℕ
last_said begun = if eqb begun 0 then [] else reply_text bad_line

-- ## More bytes

pub taken_more : (s : State) (xs ys : List ℕ) → taken s (xs ++ ys) ≡ taken (taken s xs) ys
unfolding taken
taken_more s [] ys = refl
taken_more s (x ∷ xs) ys = taken_more (byte_taken s x) xs ys

pub said_more : (s : State) (xs ys : List ℕ) → said s (xs ++ ys) ≡ said s xs ++ said (taken s xs) ys
unfolding taken said
said_more s [] ys = refl
said_more s (x ∷ xs) ys =
    ap (λ (t : List ℕ). byte_said s x ++ t) (said_more (byte_taken s x) xs ys)
    ∙ sym (append_assoc (byte_said s x) _ _)

-- ## The whole input, what it leaves, and its answers

-- The model after calls and bad lines, one after the other.
abbrev pub leaves : Model → List (Option Call) → Model
leaves m [] = m
leaves m (c ∷ cs) = leaves (answer_to m c).0 cs

-- What document 01's runner leaves when it has answered its whole input.
unfoldable pub runner_leaves : Model → (input : List ℕ) → Model
runner_leaves m input = leaves m (input_calls input)

-- The texts of replies, one after the other.
abbrev pub text_of : List (List ℕ) → List ℕ
text_of [] = []
text_of (r ∷ rs) = reply_text r ++ text_of rs

abbrev pub joined : List (List ℕ) → List ℕ
joined [] = []
joined (block ∷ blocks) = block ++ joined blocks

-- The blocks' borders do not matter.
one-taken : (s : State) (blocks : List (List ℕ)) → blocks_taken s blocks ≡ taken s (joined blocks)
unfolding blocks_taken taken
one-taken s [] = refl
one-taken s (block ∷ blocks) = one-taken (taken s block) blocks ∙ sym (taken_more s block (joined blocks))

one-said : (s : State) (blocks : List (List ℕ)) → blocks_said s blocks ≡ said s (joined blocks)
unfolding blocks_said said
one-said s [] = refl
one-said s (block ∷ blocks) =
    ap (λ (t : List ℕ). said s block ++ t) (one-said (taken s block) blocks)
    ∙ sym (said_more s block (joined blocks))

-- ## Lines

-- The first 65 bytes of a line decide what it asks for,
cut_line : (line : List ℕ) → line_call (take 65 line) ≡ line_call line
unfolding line_call
cut_line line = go (either (ltb 64 (length line)))
  where
    go : Decided (ltb 64 (length line)) → line_call (take 65 line) ≡ line_call line
    go (inl long) =
        let n = length-take-le 65 line (ltb-true 64 (length line) long) in
        rw (long, lt-ltb 64 (length (take 65 line)) (omega (arith, n))) refl
    go (inr short) = ap line_call (take_all 65 line (omega (arith, ltb-false 64 (length line) short)))

-- and are kept byte by byte.
cut-more : (line : List ℕ) (b : ℕ) → take 65 (take 65 line ++ b ∷ []) ≡ take 65 (line ++ b ∷ [])
cut-more line b = go (either (ltb 64 (length line)))
  where
    go : Decided (ltb 64 (length line)) → take 65 (take 65 line ++ b ∷ []) ≡ take 65 (line ++ b ∷ [])
    go (inl long) =
        let l = ltb-true 64 (length line) long in
        let n = length-take-le 65 line l in
        take-append-le 65 (take 65 line) (b ∷ []) (omega (arith, n))
        ∙ take_all 65 (take 65 line) (omega (arith, n))
        ∙ sym (take-append-le 65 line (b ∷ []) l)
    go (inr short) =
        ap (λ (l : List ℕ). take 65 (l ++ b ∷ []))
        (take_all 65 line (omega (arith, ltb-false 64 (length line) short)))

-- A line that is begun stands before what is left of the input.
abbrev on_front : List ℕ → List (List ℕ) → List (List ℕ)
on_front line [] = line ∷ []
on_front line (p ∷ ps) = (line ++ p) ∷ ps

-- It has no line feed.
abbrev Plain : List ℕ → Type 0
Plain line = (rest : List ℕ) → parts line_feed (line ++ rest) ≡ on_front line (parts line_feed rest)

-- What is left has a first part.
record Some (ps : List (List ℕ)) : Type 0 where
  first : List ℕ
  others : List (List ℕ)
  these : ps ≡ first ∷ others

some_part : (rest : List ℕ) → Some (parts line_feed rest)
some_part [] = record { first = []; others = []; these = refl }
some_part (b ∷ rest) = go (eqb b line_feed) (parts line_feed rest)
  where
    go : (t : Bool) (ps : List (List ℕ)) → Some (if t then [] ∷ ps else on_first b ps)
    go true ps = record { first = []; others = ps; these = refl }
    go false [] = record { first = b ∷ []; others = []; these = refl }
    go false (p ∷ ps) = record { first = b ∷ p; others = ps; these = refl }

no_bytes : Plain []
no_bytes rest = rw (some_part rest).these refl

plain_more : (line : List ℕ) (b : ℕ) → eqb b line_feed ≡ false → Plain line → Plain (line ++ b ∷ [])
plain_more line b other plain rest =
    rw (append_snoc line b rest, plain (b ∷ rest), other) (go (parts line_feed rest))
  where
    go : (ps : List (List ℕ)) → on_front line (on_first b ps) ≡ on_front (line ++ b ∷ []) ps
    go [] = refl
    go (p ∷ ps) = ap (λ (l : List ℕ). l ∷ ps) (sym (append_snoc line b p))

not_empty : (b : ℕ) (line : List ℕ) → eqb (length (b ∷ line)) 0 ≡ false
not_empty b line = ne_eqb (length (b ∷ line)) 0 (λ e. omega arith)

-- Its calls: no bytes are no line, others are an unended one;
calls_end : (line : List ℕ) → Plain line
    → input_calls line ≡ (if eqb (length line) 0 then [] else none ∷ [])
unfolding input_calls
calls_end [] plain = refl
calls_end (b ∷ line) plain = rw (whole, not_empty b line) refl
  where
    whole : parts line_feed (b ∷ line) ≡ (b ∷ line) ∷ []
    whole =
        let nothing = append-nil (b ∷ line) in
        ap (parts line_feed) (sym nothing) ∙ plain [] ∙ ap (λ (l : List ℕ). l ∷ []) nothing

-- and a line feed ends it.
calls-line : (line rest : List ℕ) → Plain line
    → input_calls (line ++ line_feed ∷ rest) ≡ line_call line ∷ input_calls rest
unfolding input_calls
calls-line line rest plain =
    go line (plain (line_feed ∷ rest) ∙ ap (λ (l : List ℕ). l ∷ parts line_feed rest) (append-nil line))
  where
    next : Some (parts line_feed rest)
    next = some_part rest

    go : (l : List ℕ) → parts line_feed (line ++ line_feed ∷ rest) ≡ l ∷ parts line_feed rest
        → input_calls (line ++ line_feed ∷ rest) ≡ line_call l ∷ input_calls rest
    go [] e = rw (e, next.these) refl
    go (b ∷ l) e = rw (e, next.these) refl

-- ## The law

-- All that is said to an input, its end too, where a line is begun.
all_said : State → List ℕ → List ℕ
all_said s input = said s input ++ last_said (length (taken s input).begun)

-- An input leaves what calls leave, and their replies are said to it.
record Answers (s : State) (input : List ℕ) (calls : List (Option Call)) : Type 0 where
  left : (taken s input).model ≡ leaves s.model calls
  told : all_said s input ≡ text_of (replies s.model calls)

cut-length : (line : List ℕ) → eqb (length (take 65 line)) 0 ≡ eqb (length line) 0
cut-length [] = refl
cut-length (b ∷ line) = not_empty b (take 64 line) ∙ sym (not_empty b line)

end_answered : (m : Model) (line : List ℕ) → Plain line → Answers (state m (take 65 line)) [] (input_calls line)
unfolding all_said taken said
end_answered m line plain =
    rw (calls_end line plain)
    record { left = left (eqb (length line) 0); told = rw (cut-length line) (told (eqb (length line) 0)) }
  where
    left : (t : Bool) → m ≡ leaves m (if t then [] else none ∷ [])
    left true = refl
    left false = refl

    told : (t : Bool)
        → (if t then [] else reply_text bad_line) ≡ text_of (replies m (if t then [] else none ∷ []))
    told true = refl
    told false = sym (append-nil (reply_text bad_line))

module _ (s : State) (b : ℕ) (input : List ℕ) where
  all-said-more : all_said s (b ∷ input) ≡ byte_said s b ++ all_said (byte_taken s b) input
  unfolding all_said taken said
  all-said-more =
      let s₁ = byte_taken s b in
      append_assoc (byte_said s b) (said s₁ input) (last_said (length (taken s₁ input).begun))

  line_answered : (c : Option Call) (cs : List (Option Call)) → let a = answer_to s.model c in
      byte_taken s b ≡ state a.0 [] → byte_said s b ≡ reply_text a.1
      → Answers (state a.0 []) input cs → Answers s (b ∷ input) (c ∷ cs)
  unfolding taken
  line_answered c cs took spoke rest =
      record {
        left = ap (λ (s₁ : State). (taken s₁ input).model) took ∙ rest.left;
        told = all-said-more ∙ rw (took, spoke, rest.told) (replied c);
      }
    where
      replied : (c : Option Call) → let a = answer_to s.model c in
          reply_text a.1 ++ text_of (replies a.0 cs) ≡ text_of (replies s.model (c ∷ cs))
      replied none = refl
      replied (some c) = refl

  byte_answered : {begun : List ℕ} {cs : List (Option Call)}
      → byte_taken s b ≡ state s.model begun → byte_said s b ≡ []
      → Answers (state s.model begun) input cs → Answers s (b ∷ input) cs
  unfolding taken
  byte_answered took spoke rest =
      record {
        left = ap (λ (s₁ : State). (taken s₁ input).model) took ∙ rest.left;
        told = all-said-more ∙ rw (took, spoke) rest.told;
      }

rest_answered : (m : Model) (line input : List ℕ) → Plain line
    → Answers (state m (take 65 line)) input (input_calls (line ++ input))
rest_answered m line [] plain = rw (append-nil line) (end_answered m line plain)
rest_answered m line (b ∷ input) plain =
    go (either (eqb b line_feed))
    (λ m₁. rest_answered m₁ [] input no_bytes)
    (λ e. rest_answered m (line ++ b ∷ []) input (plain_more line b e plain))
  where
    s : State
    s = state m (take 65 line)

    go : Decided (eqb b line_feed) → ((m₁ : Model) → Answers (state m₁ []) input (input_calls input))
        → (eqb b line_feed ≡ false
        → Answers (state m (take 65 (line ++ b ∷ []))) input (input_calls ((line ++ b ∷ []) ++ input)))
        → Answers s (b ∷ input) (input_calls (line ++ b ∷ input))
    go (inl e) next more =
        let feed = eqb-true b line_feed e in
        let calls : input_calls (line ++ b ∷ input) ≡ line_call line ∷ input_calls input =
        rw feed (calls-line line input plain) in
        let (took, spoke) = rw (cut_line line) at (line-ends s b feed) in
        rw calls (line_answered s b input (line_call line) (input_calls input) took spoke (next _))
    go (inr e) next more =
        let (took, spoke) = line_goes_on s b (eqb-false b line_feed e) in
        rw (← (append_snoc line b input))
        (byte_answered s b input (took ∙ ap (state m) (cut-more line b)) spoke (more e))

-- For every list of blocks: what is said to them, and then at the end of the input, is the text of what document 01's
-- runner answers to the whole input,
pub blocks_answered : (m : Model) (blocks : List (List ℕ))
    → let s = state m [] in blocks_said s blocks ++ last_said (length (blocks_taken s blocks).begun)
    ≡ text_of (runner m (joined blocks))
unfolding runner all_said
blocks_answered m blocks =
    rw (one-taken (state m []) blocks, one-said (state m []) blocks)
    (rest_answered m [] (joined blocks) no_bytes).told

-- and what they lead to is what it leaves.
pub blocks_left : (m : Model) (blocks : List (List ℕ))
    → (blocks_taken (state m []) blocks).model ≡ runner_leaves m (joined blocks)
unfolding runner_leaves
blocks_left m blocks =
    rw (one-taken (state m []) blocks) (rest_answered m [] (joined blocks) no_bytes).left
