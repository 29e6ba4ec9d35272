-- Texts written one after the other on a page, each with the most bytes that it may have.
-- Assumes nothing.
use Rattle.std.specs.Prelude.{List, [], ◌∷◌, ◌++◌, ◌≡◌, refl, ℕ, ◌+◌, ◌-◌, ◌^◌, ◌≤◌, ◌<◌, length, take, drop}
use Rattle.std.proofs.Common.{◌∙◌, sym, ap, add-zero, arith, append_assoc, drop-drop}
use Rattle.std.proofs.lemmas.List.Edits.{sets-eq}
use Rattle.std.proofs.Math.Seq.{append_snoc}
use borrow.Rule.Slice.PartMut.{put_mid}
use Rattle.rules.specs.Runner.{space, line_feed}
use Rattle.lines.specs.Decimal.{decimal_digits, ten_digits}
use Rattle.lines.specs.Writing.{Written, length-kept, written_then, reply_text}
use Rattle.lines.specs.declared.page.Page.{Page}

-- How many bytes more the page holds.
abbrev pub room : Page → ℕ
room p = length p.bytes.now - p.end

-- A text of so many bytes at most follows what stood on the page. No other byte is changed.
pub record Adds (before after : Page) (text : List ℕ) (most : ℕ) : Type 0 where
  pub same_reference : after.bytes.ghost_name ≡ before.bytes.ghost_name
  pub written : Written before.bytes.now after.bytes.now before.end text after.end
  pub few : after.end ≤ before.end + most
  pub long : length after.bytes.now ≡ length before.bytes.now

pub adds_nothing : (p : Page) (most : ℕ) → Adds p p [] most
adds_nothing p most =
    record {
      same_reference = refl;
      written = record { stored = refl; ended = rw add-zero };
      few = omega arith;
      long = refl;
    }

pub adds_then : {before between after : Page} {xs ys : List ℕ} {p q : ℕ}
    → Adds before between xs p → Adds between after ys q → Adds before after (xs ++ ys) (p + q)
adds_then a b =
    record {
      same_reference = b.same_reference ∙ a.same_reference;
      written = written_then a.written b.written;
      few = omega (arith, a.few, b.few);
      long = b.long ∙ a.long;
    }

pub adds_within : {before after : Page} {text : List ℕ} {p : ℕ} (most : ℕ) → p ≤ most
    → Adds before after text p → Adds before after text most
adds_within most l a =
    record {
      same_reference = a.same_reference;
      written = a.written;
      few = omega (arith, a.few);
      long = a.long;
    }

-- A word copied to where the text ended.
pub adds_word : {before after : Page} (word : List ℕ) (k : ℕ) → k ≡ length word
    → before.end + length word ≤ length before.bytes.now → after.bytes.ghost_name ≡ before.bytes.ghost_name
    → after.bytes.now ≡ put_mid before.end k before.bytes.now word → after.end ≡ before.end + length word
    → Adds before after word (length word)
adds_word {before} {after} word k many within same copied ended =
    let old = before.bytes.now in
    let at = before.end in
    let rest : drop k (drop at old) ≡ drop (at + length word) old
    = drop-drop k at old ∙ ap (λ n. drop (at + n) old) many in
    let put : put_mid at k old word ≡ take at old ++ word ++ drop (at + length word) old
    = ap (λ (tail : List ℕ). take at old ++ (word ++ tail)) rest ∙ sym (append_assoc (take at old) word _) in
    let stored = copied ∙ put ∙ sym (sets-eq word old at within) in
    let written : Written old after.bytes.now at word after.end = record { stored = stored; ended = ended } in
    record { same_reference = same; written = written; few = omega (arith, ended); long = length-kept written }

-- ## Numbers

-- A number written by its place: ten digits at most.
pub adds_number : {before after : Page} (n : ℕ) → n < 2 ^ 32 → after.bytes.ghost_name ≡ before.bytes.ghost_name
    → Written before.bytes.now after.bytes.now before.end (decimal_digits n) after.end
    → Adds before after (decimal_digits n) 10
adds_number n l same w =
    record {
      same_reference = same;
      written = w;
      few = omega (arith, w.ended, ten_digits n l);
      long = length-kept w;
    }

then_text : {before between after : Page} {p q : ℕ} {text : List ℕ} (n x : ℕ)
    → Adds before between (decimal_digits n ++ x ∷ []) p → Adds between after text q
    → Adds before after (decimal_digits n ++ x ∷ text) (p + q)
then_text {text = text} n x a b = rw (← append_snoc (decimal_digits n) x text) (adds_then a b)

pub four_added : {p₀ p₁ p₂ p₃ p₄ : Page} (first second third fourth : ℕ)
    → Adds p₀ p₁ (decimal_digits first ++ space ∷ []) 11 → Adds p₁ p₂ (decimal_digits second ++ space ∷ []) 11
    → Adds p₂ p₃ (decimal_digits third ++ space ∷ []) 11 → Adds p₃ p₄ (decimal_digits fourth ++ line_feed ∷ []) 11
    → Adds p₀ p₄ (reply_text (first ∷ second ∷ third ∷ fourth ∷ [])) 44
four_added first second third fourth a b c d =
    then_text first space a (then_text second space b (then_text third space c d))
