-- Codes written in turn.
-- Assumes nothing.
use Rattle.std.specs.Prelude.{◌≡◌, refl, List, ℕ, ◌+◌, ◌≤◌, ◌<◌, length, get_or, set, take}
use Rattle.std.proofs.Common.{◌∙◌, add-one, arith, length-set, take_all, take-suc, take-suc-set}

-- So many of all codes are written at the front of the room for codes.
pub record Written (all : List ℕ) (long done : ℕ) (codes : List ℕ) : Type 0 where
  pub kept : length codes ≡ long
  pub roomy : length all ≤ long
  pub within : done ≤ length all
  pub same : take done codes ≡ take done all

module _ {all codes : List ℕ} where
  pub written_none : length all ≤ length codes → Written all (length codes) 0 codes
  written_none l = record { kept = refl; roomy = l; within = omega arith; same = refl }

  module _ {long done : ℕ} (w : Written all long done codes) where
    pub written_next : {p x : ℕ} → done < length all → p ≡ done → x ≡ get_or all done 0
        → Written all long (done + 1) (set codes p x)
    written_next l at read =
        let kept = w.kept in
        let roomy = w.roomy in
        rw (at, read)
        (record {
          kept = rw length-set w.kept;
          roomy = w.roomy;
          within = omega arith;
          same =
              rw (
                add-one,
                take-suc-set codes done (get_or all done 0) (omega arith),
                w.same,
                take-suc all done 0 (omega arith),
              );
        })

    pub written_all : {n : ℕ} → n ≡ length all → n ≤ done → take n codes ≡ all
    written_all {n} many l =
        let within = w.within in
        let last : done ≡ n = omega arith in
        rw (← last) (w.same ∙ take_all done all (omega arith))
