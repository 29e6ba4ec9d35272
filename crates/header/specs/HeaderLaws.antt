-- The laws of the header: what limits in range say, its test word by word, and formatting part by part.
-- Assumes nothing.
use Rattle.std.specs.Prelude.{◌≡◌, refl, true, false, ◌&&◌, List, ◌++◌, ℕ, ◌+◌, ◌-◌, ◌*◌, ◌≤◌, ◌<◌, eqb, leb, length, get_or, drop, replicate}
use Rattle.std.proofs.Common.{◌∙◌, mul-le-mul_right, arith, leb-true, eq-eqb, ne_eqb}
use Rattle.std.proofs.Math.Bool.{and_assoc, and-true, and-false}
use Rattle.std.proofs.lemmas.List.{replicate-append-replicate}
use Rattle.store.specs.ListLaws.{and_both, all-passed}
use Rattle.store.specs.Layout.{header, limits_in, total, tables_offset, edges_offset, within}
use Rattle.store.specs.Layout.{limit_sentences, good_limits, good_header, formatted}
use Rattle.store.specs.Records.{read_one_by_one}
use Rattle.store.specs.declared.Limits.{Limits}

-- ## Limits

pub within_high : (low high n : ℕ) → within low high n ≡ true → n ≤ high
within_high low high n e = leb-true n high (and_both (leb low n) e).1

-- The bounds that sums and products of good limits need.
pub record InRange (l : Limits) : Type 0 where
  pub keys : l.K ≤ 2048
  pub words : total l ≤ 16777216

pub in_range_lem : (l : Limits) → good_limits l ≡ true → InRange l
in_range_lem l e =
    let p = all-passed (limit_sentences l) e in
    record {
      keys = within_high 1 2048 l.K p.1.1.1.0;
      words = leb-true (total l) 16777216 p.1.1.1.1.0;
    }

-- With at most 2,048 keys in a table, the tables' words are a small multiple of their number.
pub table-words : (l : Limits) → l.K ≤ 2048 → (1 + 3 * l.K) * l.T ≤ 6145 * l.T
table-words l h = mul-le-mul_right l.T (omega arith)

-- ## The test

-- No image shorter than a header has a good one.
pub short_header : (ws : List ℕ) → length ws < 8 → good_header ws ≡ false
short_header ws h = rw (ne_eqb (length ws) (total (limits_in ws)) (λ e. omega arith), and-false)

-- The first four words are the limits themselves, so that the other four and the length are left to test.
pub header-words : (ws : List ℕ) → 8 ≤ length ws
    → let l = limits_in ws in
    good_header ws
    ≡ (eqb (get_or ws 4 0) 8
    && eqb (get_or ws 5 0) (tables_offset l)
    && eqb (get_or ws 6 0) (edges_offset l)
    && eqb (get_or ws 7 0) (total l)
    && eqb (length ws) (total l))
header-words ws h = rw (← (read_one_by_one ws 0 8 h)) (simp (same, and_assoc, and-true))
  where
    same : (n : ℕ) → eqb n n ≡ true
    same n = eq-eqb n n refl

-- ## Formatting

-- Words that are zero, as many as the limits say, and then have the header at their front, are formatted.
pub header-zeros : (l : Limits) (n : ℕ) {zeros ws : List ℕ} → n ≡ total l → zeros ≡ replicate n 0
    → ws ≡ header l ++ drop 8 zeros → ws ≡ formatted l
header-zeros l n size cleared written =
    let split : n ≡ 8 + (total l - 8) = omega arith in
    let eight = replicate-append-replicate {A = ℕ} 8 (total l - 8) 0 in
    written ∙ rw (cleared, split, ← eight)
