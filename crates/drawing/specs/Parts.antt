-- The texts of records written one after the other, and the letters of attributes.
-- Assumes nothing.
use Rattle.std.specs.Prelude.{Bool, List, [], ◌∷◌, ◌++◌, ◌≡◌, ℕ, zero, suc, ◌+◌, ◌*◌, ◌≤◌, ◌<◌, length, get_or, take}
use Rattle.std.proofs.Common.{append-nil, append_assoc, ◌∙◌, ap, zero-add, add-suc, suc-add, mul-suc, mul-le-mul_left, add-one, arith}
use Rattle.std.proofs.Math.Seq.{take-length}
use Rattle.slot.specs.Attributes.{present}
use Rattle.lines.specs.declared.page.Page.{Page}
use Rattle.lines.specs.Pages.{room, Adds, adds_nothing, adds_then, adds_within}
use Rattle.drawing.specs.Graph.{texts, letter_if, attributes_text}

-- ## The texts of records, one after the other

texts-more : {A : Type 0} (text : ℕ → A → List ℕ) (d : A) (n : ℕ) (xs : List A) (i : ℕ) → i < length xs
    → texts text n (take (suc i) xs) ≡ texts text n (take i xs) ++ text (i + n) (get_or xs i d)
texts-more text d n [] i l = absurd (omega arith)
texts-more text d n (x ∷ xs) zero l = rw (append-nil, zero-add)
texts-more text d n (x ∷ xs) (suc i) l =
    rw (append_assoc, suc-add, ← add-suc)
    (ap (λ (ys : List ℕ). text n x ++ ys) (texts-more text d (suc n) xs i (omega arith)))

-- The texts of the first records are added, each with the same most bytes.
pub record Adding
    {A : Type 0}
    (text : ℕ → A → List ℕ)
    (n each : ℕ)
    (xs : List A)
    (before after : Page)
    (done : ℕ)
    : Type 0 where
  pub within : done ≤ length xs
  pub added : Adds before after (texts text n (take done xs)) (each * done)

module _ {A : Type 0} {text : ℕ → A → List ℕ} {n each : ℕ} {xs : List A} {before : Page} where
  pub none_added : Adding text n each xs before before 0
  none_added = record { within = omega arith; added = adds_nothing before (each * 0) }

  module _ {between : Page} {done : ℕ} (p : Adding text n each xs before between done) where
    pub room_for_one : each * length xs ≤ room before → done < length xs → each ≤ room between
    room_for_one left l =
        let more = mul-le-mul_left each l in
        omega (arith, p.added.few, p.added.long, mul-suc each done)

    pub one_added : (d : A) {after : Page} → done < length xs
        → Adds between after (text (done + n) (get_or xs done d)) each
        → Adding text n each xs before after (done + 1)
    one_added d l q =
        rw add-one
        record {
          within = omega arith;
          added = rw (texts-more text d n xs done l)
              (adds_within (each * suc done) (omega (arith, mul-suc each done)) (adds_then p.added q));
        }

    pub all_added : length xs ≤ done → Adds before between (texts text n xs) (each * length xs)
    all_added l =
        let within = p.within in
        let all : done ≡ length xs = omega arith in
        rw (all, take-length xs) at p.added

-- ## The letters of attributes

-- A letter that was chosen by a test.
pub letter_told : {told is : Bool} {r : ℕ} (letter : ℕ) → told ≡ is → r ≡ letter_if told letter
    → r ≡ letter_if is letter
letter_told letter e chosen = chosen ∙ ap (λ (b : Bool). letter_if b letter) e

pub five_letters : {w e c g s : ℕ} (a : ℕ) → w ≡ letter_if (present 1 a) 119 → e ≡ letter_if (present 2 a) 101
    → c ≡ letter_if (present 4 a) 99 → g ≡ letter_if (present 8 a) 103 → s ≡ letter_if (present 16 a) 115
    → attributes_text a ≡ w ∷ e ∷ c ∷ g ∷ s ∷ []
unfolding attributes_text
five_letters a w e c g s = rw (w, e, c, g, s)
