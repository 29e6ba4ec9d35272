-- A formatted image is sound, and no shape of it is held.
-- Assumes nothing.
use Rattle.std.proofs.Math.Bool.{Bool, not, not-not}
use Rattle.std.specs.Prelude.{true, List, ◌≡◌, ℕ, zero, suc, ◌≤◌, leb}
use Rattle.std.proofs.Math.Path.{refl, sym, ap}
use Rattle.std.proofs.Common.{◌∙◌, eqb-true, leb-true}
use Rattle.std.proofs.Math.Dec.{eqb}
use Rattle.std.proofs.Math.ListN.{replicate}
use Rattle.store.specs.Lists.{at, numbered, every}
use Rattle.store.specs.Model.{Table, free, no_shape, no_edge, blank, shape_at}
use Rattle.store.specs.Layout.{limit_sentences, good_limits, good_header, formattable, formatted, parse, laid_out}
use Rattle.store.specs.ListLaws.{and_both, ◌and◌, all-passed, passed-all, every-place, every-replicate, every_same}
use Rattle.store.specs.ThereAndBack.{parse-words, blank-words, fits-blank, laid-formatted}
use Rattle.store.specs.declared.Limits.{Limits}
use Rattle.store.specs.declared.Shape.{Shape}
use Rattle.store.specs.declared.Edge.{Edge}
use Rattle.rules.specs.declared.Refusal.TheVariants.{BadSize}
use Rattle.rules.specs.Sound.{in_range, table_in_use, free_zero, tables_good, tables_used, counts_fit}
use Rattle.rules.specs.Sound.{roots_zero, children_linked, children_stepped, no_two_alike, edges_differ}
use Rattle.rules.specs.Sound.{edges_good, transitions_limited, holds_limited, uniques_zero, model_sentences}
use Rattle.rules.specs.Sound.{sound_model, word_sentences, sound_words, sound}
use Rattle.rules.specs.Calls.{Done, Yes, formatting, format}
use Rattle.rules.proofs.Settled.{guard_passed, same_given, settle_answered}

-- Free edges are no two alike.
free_unlike : (n : ℕ) → no_two_alike (replicate n no_edge) ≡ true
free_unlike zero = refl
free_unlike (suc n) = free_unlike n

-- A model whose records are all free is sound.
pub blank-sound : (l : Limits) → sound_model (blank l) ≡ true
unfolding
    sound_model
    in_range
    table_in_use
    free_zero
    tables_good
    tables_used
    counts_fit
    roots_zero
    children_linked
    children_stepped
    edges_differ
    edges_good
    transitions_limited
    holds_limited
    uniques_zero
blank-sound l =
    passed-all (model_sentences (blank l))
    (rw (shapes _ (λ n. refl)) (edges _ refl)
    and shapes _ (λ n. refl)
    and rw (every-replicate _ l.S no_shape refl) (edges _ refl)
    and tables _ (λ n. refl)
    and rw (tables _ (λ n. refl)) (shapes _ (λ n. refl))
    and shapes _ (λ n. refl)
    and shapes _ (λ n. refl)
    and shapes _ (λ n. refl)
    and shapes _ (λ n. refl)
    and free_unlike l.E
    and edges _ refl
    and shapes _ (λ n. refl)
    and shapes _ (λ n. refl)
    and shapes _ (λ n. refl)
    and tt)
  where
    shapes : (test : ℕ × Shape → Bool) → ((n : ℕ) → test (n, no_shape) ≡ true)
        → every test (numbered 1 (replicate l.S no_shape)) ≡ true
    shapes test h = every_same test no_shape h 1 l.S

    tables : (test : ℕ × Table → Bool) → ((n : ℕ) → test (n, free) ≡ true)
        → every test (numbered 1 (replicate l.T free)) ≡ true
    tables test h = every_same test free h 1 l.T

    edges : (test : Edge → Bool) → test no_edge ≡ true → every test (replicate l.E no_edge) ≡ true
    edges test h = every-replicate test l.E no_edge h

pub formatted-read : (l : Limits) → parse (formatted l) ≡ blank l
formatted-read l = ap parse (sym (blank-words l)) ∙ parse-words (blank l) (fits-blank l)

-- Zeros after a header with limits in range are sound.
pub formatted-sound : (l : Limits) → good_limits l ≡ true → sound (formatted l) ≡ true
unfolding sound sound_words laid_out
formatted-sound l good =
    let laid = and_both (good_header (formatted l)) (laid-formatted l) in
    rw (passed-all (word_sentences (formatted l)) (good and laid.0 and laid.1 and tt), formatted-read l)
    (blank-sound l)

module _ (l : Limits) (ws : List ℕ) (e : (format l ws).1 ≡ Yes Done) where
  -- A formatting that is not refused has been of words that fit, and has written zeros after the header.
  format_writes : (formattable l ws ≡ true) × ((format l ws).0 ≡ formatted l)
  unfolding format
  format_writes =
      let fit = formattable l ws in
      let passed = guard_passed BadSize (not fit) _ _ (settle_answered ws (formatting l ws) Done e) in
      (sym (not-not fit) ∙ ap not passed.0, sym (ap (λ x. x.0) (same_given passed.1)))

  -- "A formatting that is not refused" leaves "a sound image".
  pub format-sound : sound (format l ws).0 ≡ true
  format-sound = rw format_writes.1 (formatted-sound l (and_both (good_limits l) format_writes.0).0)

  -- It is read as free records, in one table at least,
  pub format_read : parse (format l ws).0 ≡ blank l
  format_read = rw format_writes.1 (formatted-read l)

  pub format-tables : 1 ≤ l.T
  format-tables =
      let good = (and_both (good_limits l) format_writes.0).0 in
      let within = (all-passed (limit_sentences l) good).1.0 in
      leb-true 1 l.T (and_both (leb 1 l.T) within).0

  -- and no shape of it is held.
  pub format-unheld : (n : ℕ) → (shape_at (parse (format l ws).0) n).holds ≡ 0
  unfolding shape_at
  format-unheld n =
      let none : Shape → Bool = λ s. eqb s.holds 0 in
      let shapes = replicate l.S no_shape in
      let each = every-place no_shape none shapes refl (every-replicate none l.S no_shape refl) n in
      rw format_read (eqb-true (at shapes n no_shape).holds 0 each)
