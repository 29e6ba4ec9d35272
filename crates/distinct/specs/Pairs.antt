-- Each code against all after it.
-- Assumes nothing.
use Rattle.std.specs.Prelude.{◌≡◌, Bool, false, not, List, ℕ, suc, ◌+◌, eqb, get_or, drop}
use Rattle.std.proofs.Common.{ap, add-one}
use Rattle.store.specs.Lists.{any}
use Rattle.store.specs.Scans.{Scan, scan_of, and_if}
use Rattle.rules.specs.Sound.{distinct}

-- No code after the one at a place is the same.
unfoldable pub none_after : List ℕ → ℕ → Bool
none_after codes k = not (any (eqb (get_or codes k 0)) (drop (suc k) codes))

pub none_after_lem : (codes : List ℕ) (k : ℕ)
    → not (any (eqb (get_or codes k 0)) (drop (k + 1) codes)) ≡ none_after codes k
unfolding none_after
none_after_lem codes k = rw add-one

abbrev pub distinct_scan : List ℕ → Scan Bool
distinct_scan =
    scan_of 0 (λ k xs. distinct xs) (λ k x xs. not (not (any (eqb x) xs))) (λ k x. false)
    (λ k x xs. and_if (not (any (eqb x) xs)) (distinct xs))

pub last-tested : (codes : List ℕ) (k : ℕ) {b : Bool} → b ≡ none_after codes k
    → not b ≡ (distinct_scan codes).stops k
unfolding none_after
last-tested codes k e = ap not e
