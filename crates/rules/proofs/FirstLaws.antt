-- The first laws of the definitions: refusals, the lowest free place, prunes.
-- Assumes nothing.
use Rattle.std.specs.Prelude.{Bool, true, false, List, ◌↔◌, ◌⊎◌, ◌≢◌, ◌≡◌, refl, ℕ, zero, suc, ◌+◌, ◌≤◌, ◌<◌, length}
use Rattle.std.proofs.Math.Bool.{and-false}
use Rattle.std.proofs.Common.{inl, inr, sym, ◌∙◌, ap, not-suc-le-zero, le_of_suc-le-suc, arith, one-add, ne_eqb}
use Rattle.std.proofs.Math.Dec.{eqb-suc-zero}
use Rattle.std.specs.Prelude.{if◌then◌else◌}
use Rattle.store.specs.Lists.{at, lowest}
use Rattle.store.specs.Model.{Model, no_edge}
use Rattle.store.specs.Layout.{words, parse, laid_out}
use Rattle.store.specs.ListLaws.{all-passed}
use Rattle.store.specs.ThereAndBack.{words-parse}
use Rattle.store.specs.declared.Limits.{Limits}
use Rattle.store.specs.declared.Edge.{Edge}
use Rattle.rules.specs.declared.Refusal.{Refusal}
use Rattle.rules.specs.declared.Refusal.TheVariants.{Damaged}
use Rattle.rules.specs.Refusals.{ok, refused, place}
use Rattle.rules.specs.Steps.{dead, prune}
use Rattle.rules.specs.Sound.{sound_model, word_sentences, sound_words}
use Rattle.rules.specs.Calls.{Call, perform, Reply, No, call, call_on, formatting, format}
use Rattle.rules.proofs.Settled.{settle_refused}
use Rattle.store.specs.PlaceLaws.{NoneBelow, FirstAt, FirstOrNone, first_or_none, lowest-first, lowest-none}
use Rattle.store.specs.PlaceLaws.{at_map}

-- ## A refusal changes nothing

-- A call that is refused leaves the model as it was.
pub refused_call : (m : Model) (c : Call) (r : Refusal) → (call m c).1 ≡ No r → (call m c).0 ≡ m
unfolding call
refused_call m c r e = settle_refused m (if sound_model m then perform m c else refused Damaged) r e

-- Words that pass their tests are laid out.
sound-laid : (ws : List ℕ) → sound_words ws ≡ true → laid_out ws ≡ true
unfolding sound_words laid_out
sound-laid ws e = let p = all-passed (word_sentences ws) e in rw p.1.0 p.1.1.0

-- A call on lent words that is refused leaves every word as it was.
pub refused_words : (ws : List ℕ) (c : Call) (r : Refusal) → (call_on ws c).1 ≡ No r → (call_on ws c).0 ≡ ws
unfolding call_on
refused_words ws c r e = go (sound_words ws) (words (call (parse ws) c).0, (call (parse ws) c).1) same e
  where
    same : sound_words ws ≡ true → (call (parse ws) c).1 ≡ No r → words (call (parse ws) c).0 ≡ ws
    same s e = ap words (refused_call (parse ws) c r e) ∙ ((words-parse ws).0 (sound-laid ws s)).0

    go : (b : Bool) (x : List ℕ × Reply) → (b ≡ true → x.1 ≡ No r → x.0 ≡ ws)
        → (if b then x else (ws, No Damaged)).1 ≡ No r → (if b then x else (ws, No Damaged)).0 ≡ ws
    go true x h e = h refl e
    go false x h e = refl

-- A formatting that is refused leaves every word as it was.
pub refused_format : (l : Limits) (ws : List ℕ) (r : Refusal) → (format l ws).1 ≡ No r → (format l ws).0 ≡ ws
unfolding format
refused_format l ws r e = settle_refused ws (formatting l ws) r e

-- ## "The lowest free place is always taken"

-- p is the lowest place whose record passes; d is what `at` reads where there is no place.
pub record LowestPlace {A : Type 0} (test : A → Bool) (d : A) (xs : List A) (p : ℕ) : Type 0 where
  pub low : 1 ≤ p
  pub high : p ≤ length xs
  pub passes : test (at xs p d) ≡ true
  pub none_below : (k : ℕ) → 1 ≤ k → k < p → test (at xs k d) ≡ false

module _ {A : Type 0} (test : A → Bool) (d : A) where
  -- The lowest, numbered from n, is the first that passes, or 0 where none does.
  pub lowest_right : (n : ℕ) (xs : List A)
      → ((k : ℕ) × (lowest test n xs ≡ n + k) × FirstAt test d xs k)
      ⊎ ((lowest test n xs ≡ 0) × NoneBelow test d xs (length xs))
  lowest_right n xs = go (first_or_none test d xs)
    where
      go : FirstOrNone test d xs
          → ((k : ℕ) × (lowest test n xs ≡ n + k) × FirstAt test d xs k)
          ⊎ ((lowest test n xs ≡ 0) × NoneBelow test d xs (length xs))
      go (inl (k, f)) = inl (k, lowest-first test d n xs k f, f)
      go (inr h) = inr (lowest-none test d n xs h, h)

  -- From positions, counted from 0, to places and back.
  to_places : (xs : List A) (n : ℕ) → NoneBelow test d xs n
      → (k : ℕ) → 1 ≤ k → k ≤ n → test (at xs k d) ≡ false
  to_places xs n h zero low high = absurd (not-suc-le-zero low)
  to_places xs n h (suc k) low high = h k high

  to-lowest : (xs : List A) (k : ℕ) → FirstAt test d xs k → LowestPlace test d xs (suc k)
  to-lowest xs k f =
      record {
        low = omega arith;
        high = f.inside;
        passes = f.passes;
        none_below = λ j low high. to_places xs k f.none_before j low (le_of_suc-le-suc high);
      }

  to-first : (xs : List A) (k : ℕ) → LowestPlace test d xs (suc k) → FirstAt test d xs k
  to-first xs k p =
      record {
        inside = p.high;
        passes = p.passes;
        none_before = λ j l. p.none_below (suc j) (omega arith) (omega arith);
      }

  module _ (r : Refusal) (xs : List A) where
    -- What `place` gives in either case.
    place-first : (k : ℕ) → FirstAt test d xs k → place r test xs ≡ ok (suc k)
    place-first k f = rw (lowest-first test d 1 xs k f, one-add, eqb-suc-zero)

    place_none : NoneBelow test d xs (length xs) → place r test xs ≡ refused r
    place_none h = rw (lowest-none test d 1 xs h)

    -- A place is given exactly if it is the lowest that passes,
    pub place_given : (p : ℕ) → (place r test xs ≡ ok p) ↔ LowestPlace test d xs p
    place_given p = (λ e. there e (first_or_none test d xs), back p)
      where
        there : place r test xs ≡ ok p → FirstOrNone test d xs → LowestPlace test d xs p
        there e (inl (k, f)) = let z : suc k ≡ p = cc (place-first k f) in rw z at (to-lowest xs k f)
        there e (inr h) = let z : ◌≡◌ {A = ℕ} 0 1 = cc (place_none h) in absurd (omega arith)

        back : (p : ℕ) → LowestPlace test d xs p → place r test xs ≡ ok p
        back zero l = absurd (not-suc-le-zero l.low)
        back (suc k) l = place-first k (to-first xs k l)

    -- and refused exactly if none passes.
    pub place_refused :
        (place r test xs ≡ refused r) ↔ ((p : ℕ) → 1 ≤ p → p ≤ length xs → test (at xs p d) ≡ false)
    place_refused =
        (λ e. there e (first_or_none test d xs), λ h. place_none (λ j l. h (suc j) (omega arith) l))
      where
        there : place r test xs ≡ refused r → FirstOrNone test d xs
            → (p : ℕ) → 1 ≤ p → p ≤ length xs → test (at xs p d) ≡ false
        there e (inl (k, f)) = let z : ◌≡◌ {A = ℕ} 0 1 = cc (place-first k f) in absurd (omega arith)
        there e (inr h) = to_places xs (length xs) h

-- ## Pruning

module _ (n kind : ℕ) (es : List Edge) (p : ℕ) where
  -- At each place, a dead edge of that shape and kind becomes free, and any other stays.
  pub prune-at : at (prune n kind es) p no_edge
      ≡ (if dead n kind (at es p no_edge) then no_edge else at es p no_edge)
  prune-at = at_map (λ e. if dead n kind e then no_edge else e) es p no_edge (go (dead n kind no_edge))
    where
      go : (b : Bool) → (if b then no_edge else no_edge) ≡ no_edge
      go true = refl
      go false = refl

  -- So whatever is no dead edge of that shape and kind stays: the dead edges of others,
  pub prune-others : dead n kind (at es p no_edge) ≡ false → at (prune n kind es) p no_edge ≡ at es p no_edge
  prune-others e = rw (prune-at, e)

  -- and every live edge.
  pub prune_live : (at es p no_edge).child ≢ 0 → at (prune n kind es) p no_edge ≡ at es p no_edge
  prune_live h = prune-others (rw (ne_eqb (at es p no_edge).child 0 h, and-false))

  -- No dead edge of that shape and kind is left.
  pub prune-dead : n ≢ 0 → dead n kind (at (prune n kind es) p no_edge) ≡ false
  prune-dead h = rw prune-at (go (dead n kind (at es p no_edge)) refl)
    where
      go : (b : Bool) → dead n kind (at es p no_edge) ≡ b
          → dead n kind (if b then no_edge else at es p no_edge) ≡ false
      go true e = rw (ne_eqb 0 n (λ z. h (sym z)))
      go false e = e
