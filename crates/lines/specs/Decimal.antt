-- Numbers in decimal: their digits, how many, and that document 01's reading undoes the writing.
-- Assumes nothing.
use Rattle.std.specs.Prelude.{Bool, true, false, List, [], ◌∷◌, ◌++◌, ◌≡◌, refl, ℕ, zero, suc, ◌+◌, ◌-◌, ◌*◌, ◌/◌, ◌%◌, ◌^◌, ◌≤◌, ◌<◌, ltb, length}
use Rattle.std.proofs.lemmas.Bool.{false≢true}
use Rattle.std.proofs.Common.{true≢false, inl, inr, sym, ap, ◌∙◌, pow-suc, arith, lt-ltb, le-ltb, ltb-true, ltb-false, le-leb, length-append}
use Rattle.std.proofs.Math.Option.{Option, none, some}
use Rattle.store.specs.Layout.{within}
use Rattle.store.specs.ListLaws.{Decided, either, both-and}
use Rattle.rules.specs.Text.{bytes}
use Rattle.rules.specs.Runner.{decimal, below2^32, number}

-- At most so many digits after the first.
abbrev digits : (more n : ℕ) → List ℕ
digits zero n = (48 + n) ∷ []
digits (suc more) n =
    elim (ltb n 10) [ true ↦ (48 + n) ∷ [] | false ↦ digits more (n / 10) ++ (48 + n % 10) ∷ [] ]

-- In decimal, without leading zeros.
unfoldable pub decimal_digits : ℕ → List ℕ
decimal_digits n = digits n n

-- The largest number that is written.
largest : decimal_digits 4294967295 ≡ bytes "4294967295"
unfolding decimal_digits
largest = refl

-- ## A digit more

one_digit : (more n : ℕ) → n < 10 → digits more n ≡ (48 + n) ∷ []
one_digit zero n l = refl
one_digit (suc more) n l = go (ltb n 10) (lt-ltb n 10 l)
  where
    go : (t : Bool) → t ≡ true
        → elim t [ true ↦ (48 + n) ∷ [] | false ↦ digits more (n / 10) ++ (48 + n % 10) ∷ [] ] ≡ (48 + n) ∷ []
    go true e = refl
    go false e = absurd (false≢true e)

more-digits : (more n : ℕ) → 10 ≤ n → digits (suc more) n ≡ digits more (n / 10) ++ (48 + n % 10) ∷ []
more-digits more n l = go (ltb n 10) (le-ltb n 10 l)
  where
    go : (t : Bool) → t ≡ false
        → elim t [ true ↦ (48 + n) ∷ [] | false ↦ digits more (n / 10) ++ (48 + n % 10) ∷ [] ]
        ≡ digits more (n / 10) ++ (48 + n % 10) ∷ []
    go true e = absurd (true≢false e)
    go false e = refl

-- Where there are enough, more change nothing.
enough : (f g n : ℕ) → n ≤ f → n ≤ g → digits f n ≡ digits g n
enough zero g n l m = sym (one_digit g n (omega arith))
enough (suc f) zero n l m = one_digit (suc f) n (omega arith)
enough (suc f) (suc g) n l m = go (either (ltb n 10)) (enough f g (n / 10) (omega arith) (omega arith))
  where
    go : Decided (ltb n 10) → digits f (n / 10) ≡ digits g (n / 10) → digits (suc f) n ≡ digits (suc g) n
    go (inl e) again =
        let small = ltb-true n 10 e in
        one_digit (suc f) n small ∙ sym (one_digit (suc g) n small)
    go (inr e) again =
        let large = ltb-false n 10 e in
        more-digits f n large
        ∙ ap (λ (ds : List ℕ). ds ++ (48 + n % 10) ∷ []) again
        ∙ sym (more-digits g n large)

pub digits-small : (n : ℕ) → n < 10 → decimal_digits n ≡ (48 + n) ∷ []
unfolding decimal_digits
digits-small n l = one_digit n n l

pub digits_large : (n : ℕ) → 10 ≤ n → decimal_digits n ≡ decimal_digits (n / 10) ++ (48 + n % 10) ∷ []
unfolding decimal_digits
digits_large zero l = absurd (omega arith)
digits_large (suc n) l =
    more-digits n (suc n) l
    ∙ ap (λ (ds : List ℕ). ds ++ (48 + suc n % 10) ∷ [])
    (enough n (suc n / 10) (suc n / 10) (omega arith) (omega arith))

few-digits : (k n : ℕ) → n < 10 ^ suc k → length (decimal_digits n) ≤ suc k
few-digits zero n l = rw (digits-small n (omega arith)) (omega arith)
few-digits (suc k) n l = go (either (ltb n 10)) (few-digits k (n / 10))
  where
    go : Decided (ltb n 10) → (n / 10 < 10 ^ suc k → length (decimal_digits (n / 10)) ≤ suc k)
        → length (decimal_digits n) ≤ suc (suc k)
    go (inl e) again = rw (digits-small n (ltb-true n 10 e)) (omega arith)
    go (inr e) again =
        let rest = again (omega (arith, pow-suc 10 (suc k))) in
        rw (digits_large n (ltb-false n 10 e), length-append) (omega arith)

-- A number below 2^32 has ten digits at most.
pub ten_digits : (n : ℕ) → n < 2 ^ 32 → length (decimal_digits n) ≤ 10
ten_digits n l = few-digits 9 n (omega arith)

-- At least one.
pub digits_some : (n : ℕ) → 1 ≤ length (decimal_digits n)
digits_some n = go (either (ltb n 10))
  where
    go : Decided (ltb n 10) → 1 ≤ length (decimal_digits n)
    go (inl e) = rw (digits-small n (ltb-true n 10 e)) (omega arith)
    go (inr e) = rw (digits_large n (ltb-false n 10 e), length-append) (omega arith)

-- ## Read back

decimal_digit : (v d : ℕ) (ds : List ℕ) → within 48 57 d ≡ true
    → decimal v (d ∷ ds) ≡ decimal (10 * v + (d - 48)) ds
decimal_digit v d ds = go (within 48 57 d)
  where
    go : (t : Bool) → t ≡ true
        → elim t [ true ↦ decimal (10 * v + (d - 48)) ds | false ↦ none ] ≡ decimal (10 * v + (d - 48)) ds
    go true e = refl
    go false e = absurd (false≢true e)

decimal-append : (v : ℕ) (ds : List ℕ) (d w : ℕ) → within 48 57 d ≡ true → decimal v ds ≡ some w
    → decimal v (ds ++ d ∷ []) ≡ some (10 * w + (d - 48))
decimal-append v [] d w good e =
    let same : v ≡ w = cc in
    decimal_digit v d [] good ∙ rw same
decimal-append v (b ∷ ds) d w good e = go (within 48 57 b) (decimal-append (10 * v + (b - 48)) ds d w good) e
  where
    go : (t : Bool)
        → (decimal (10 * v + (b - 48)) ds ≡ some w
        → decimal (10 * v + (b - 48)) (ds ++ d ∷ []) ≡ some (10 * w + (d - 48)))
        → ◌≡◌ {A = Option ℕ} (elim t [ true ↦ decimal (10 * v + (b - 48)) ds | false ↦ none ]) (some w)
        → ◌≡◌ {A = Option ℕ} (elim t [ true ↦ decimal (10 * v + (b - 48)) (ds ++ d ∷ []) | false ↦ none ])
        (some (10 * w + (d - 48)))
    go true again e = again e
    go false again e = let z : ◌≡◌ {A = ℕ} 0 1 = cc in absurd (omega arith)

is_digit : (d : ℕ) → d < 10 → within 48 57 (48 + d) ≡ true
is_digit d l = both-and (le-leb 48 (48 + d) (omega arith)) (le-leb (48 + d) 57 (omega arith))

digits-back : (more n : ℕ) → n ≤ more → decimal 0 (digits more n) ≡ some n
digits-back zero n l = decimal_digit 0 (48 + n) [] (is_digit n (omega arith)) ∙ ap some (omega arith)
digits-back (suc more) n l = go (either (ltb n 10)) (digits-back more (n / 10) (omega arith))
  where
    go : Decided (ltb n 10) → decimal 0 (digits more (n / 10)) ≡ some (n / 10)
        → decimal 0 (digits (suc more) n) ≡ some n
    go (inl e) again =
        let small = ltb-true n 10 e in
        ap (decimal 0) (one_digit (suc more) n small)
        ∙ decimal_digit 0 (48 + n) [] (is_digit n small) ∙ ap some (omega arith)
    go (inr e) again =
        let good = is_digit (n % 10) (omega arith) in
        ap (decimal 0) (more-digits more n (ltb-false n 10 e))
        ∙ decimal-append 0 (digits more (n / 10)) (48 + n % 10) (n / 10) good again ∙ ap some (omega arith)

some_digit : (n : ℕ) → 0 < length (decimal_digits n)
some_digit n = go (either (ltb n 10))
  where
    go : Decided (ltb n 10) → 0 < length (decimal_digits n)
    go (inl e) = rw (digits-small n (ltb-true n 10 e)) (omega arith)
    go (inr e) = rw (digits_large n (ltb-false n 10 e), length-append) (omega arith)

decimal-back : (n : ℕ) → decimal 0 (decimal_digits n) ≡ some n
unfolding decimal_digits
decimal-back n = digits-back n n (omega arith)

-- Document 01's reading of a number undoes its writing.
pub number-back : (n : ℕ) → n < 2 ^ 32 → number (decimal_digits n) ≡ some n
number-back n l = go (decimal_digits n) (some_digit n) (decimal-back n)
  where
    go : (ds : List ℕ) → 0 < length ds → decimal 0 ds ≡ some n → number ds ≡ some n
    go [] h e = absurd (omega arith)
    go (d ∷ ds) h e = ap below2^32 e ∙ rw (lt-ltb n (2 ^ 32) l)
