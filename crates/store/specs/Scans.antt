-- Loops over the records of a list: what is known with so many of them done. A scan stops at the first record
-- that decides, a count goes on to the end.
-- Assumes nothing.
use Rattle.std.specs.Prelude.{◌≡◌, refl, Bool, true, false, ◌&&◌, ◌||◌, not, List, [], ◌∷◌, ℕ, suc, ◌+◌, ◌≤◌, ◌<◌, length, get_or, drop}
use Rattle.std.proofs.Common.{sym, ap, ◌∙◌, arith, drop-cons}
use Rattle.std.proofs.Math.Option.{Option, some}
use Rattle.std.proofs.Math.Numerals.{add-one}
use Rattle.std.proofs.Math.Seq.{drop-length}
use Rattle.std.specs.Prelude.{if◌then◌else◌}
use Rattle.std.specs.Int.{from_bool}
use Rattle.store.specs.Model.{Model, free, no_shape, no_edge, shape_at, table_at, edge_at}
use Rattle.store.specs.Lists.{numbered, lowest, keep, every, any, first}

-- After k records comes the one at place k + 1.
module _ (m : Model) (k : ℕ) where
  pub shape-next : shape_at m (k + 1) ≡ get_or m.shapes k no_shape
  unfolding shape_at
  shape-next = rw add-one

  pub table-next : table_at m (k + 1) ≡ get_or m.tables k free
  unfolding table_at
  table-next = rw add-one

  pub edge-next : edge_at m (k + 1) ≡ get_or m.edges k no_edge
  unfolding edge_at
  edge-next = rw add-one

-- ## A scan

-- What a scan answers from each record on: it stops at the first that decides, with what that one says.
pub record Scan (B : Type 0) : Type 0 where
  pub many : ℕ
  pub stops : ℕ → Bool
  pub says : ℕ → B
  pub from : ℕ → B
  pub otherwise : B
  pub next : (k : ℕ) → k < many → from k ≡ (if stops k then says k else from (k + 1))
  pub end : from many ≡ otherwise

-- With so many done, what the rest answers is the answer.
pub record Scanning {B : Type 0} (s : Scan B) (done : ℕ) (answer : B) : Type 0 where
  pub within : done ≤ s.many
  pub same : s.from done ≡ answer

pub scan : {B : Type 0} (s : Scan B) (start : ℕ) → start ≤ s.many → Scanning s start (s.from start)
scan s start l = record { within = l; same = refl }

module _
    {B : Type 0}
    {s : Scan B}
    {done : ℕ}
    {answer : B}
    (t : Scanning s done answer)
    {n : ℕ}
    (count : n ≡ s.many)
  where
    module _ (l : done < n) {b : Bool} (tested : b ≡ s.stops done) where
      turn : (if b then s.says done else s.from (done + 1)) ≡ answer
      turn = rw tested (sym (s.next done (rw count at l)) ∙ t.same)

      pub stopped : b ≡ true → s.says done ≡ answer
      stopped e = rw e at turn

      pub went_on : b ≡ false → Scanning s (done + 1) answer
      went_on e = record { within = omega arith; same = rw e at turn }

    pub ended : n ≤ done → s.otherwise ≡ answer
    ended l =
        let within = t.within in
        let all : s.many ≡ done = omega arith in
        sym s.end ∙ ap s.from all ∙ t.same

-- ## Scans of a list

-- `whole` is what the scan answers of the records that are left, with so many before them.
module _
    {A B : Type 0}
    (d : A)
    (whole : ℕ → List A → B)
    (stop : ℕ → A → List A → Bool)
    (say : ℕ → A → B)
    (more : (k : ℕ) (x : A) (xs : List A)
    → whole k (x ∷ xs) ≡ (if stop k x xs then say k x else whole (suc k) xs))
  where
    abbrev pub scan_of : List A → Scan B
    scan_of xs =
        record {
          many = length xs;
          stops = λ k. stop k (get_or xs k d) (drop (suc k) xs);
          says = λ k. say k (get_or xs k d);
          from = λ k. whole k (drop k xs);
          otherwise = whole (length xs) [];
          next = λ k l. rw (drop-cons xs k d l, add-one) (more k (get_or xs k d) (drop (suc k) xs));
          end = rw drop-length;
        }

pub and_if : (a b : Bool) → (a && b) ≡ (if not a then false else b)
and_if true b = refl
and_if false b = refl

pub or_if : (a b : Bool) → (a || b) ≡ (if a then true else b)
or_if true b = refl
or_if false b = refl

pub none_if : (a b : Bool) → not (a || b) ≡ (if a then false else not b)
none_if true b = refl
none_if false b = refl

module _ {A : Type 0} (d : A) where
  abbrev pub lowest_scan : (A → Bool) → List A → Scan ℕ
  lowest_scan test =
      scan_of d (λ k xs. lowest test (k + 1) xs) (λ k x xs. test x) (λ k x. k + 1)
      (λ k x xs. rw (add-one k, add-one (suc k)))

  abbrev pub first_scan : (A → Bool) → List A → Scan (Option A)
  first_scan test =
      scan_of d (λ k xs. first test xs) (λ k x xs. test x) (λ k x. some x) (λ k x xs. refl)

  abbrev pub any_scan : (A → Bool) → List A → Scan Bool
  any_scan test =
      scan_of d (λ k xs. any test xs) (λ k x xs. test x) (λ k x. true) (λ k x xs. or_if (test x) (any test xs))

  abbrev pub none_scan : (A → Bool) → List A → Scan Bool
  none_scan test =
      scan_of d (λ k xs. not (any test xs)) (λ k x xs. test x) (λ k x. false)
      (λ k x xs. none_if (test x) (any test xs))

  abbrev pub every_scan : (A → Bool) → List A → Scan Bool
  every_scan test =
      scan_of d (λ k xs. every test xs) (λ k x xs. not (test x)) (λ k x. false)
      (λ k x xs. and_if (test x) (every test xs))

  -- Every record with its place.
  abbrev pub places_scan : (ℕ × A → Bool) → List A → Scan Bool
  places_scan test =
      scan_of d (λ k xs. every test (numbered (suc k) xs)) (λ k x xs. not (test (k + 1, x))) (λ k x. false)
      (λ k x xs. rw add-one (and_if (test (suc k, x)) (every test (numbered (suc (suc k)) xs))))

-- ## A count

module _ {A : Type 0} (test : A → Bool) where
  -- Those counted and those that are left to count are all.
  pub record Counting (xs : List A) (done counted : ℕ) : Type 0 where
    pub within : done ≤ length xs
    pub few : counted ≤ done
    pub rest : counted + length (keep test (drop done xs)) ≡ length (keep test xs)

  pub count : (xs : List A) → Counting xs 0 0
  count xs = record { within = omega arith; few = omega arith; rest = omega arith }

  module _ {xs : List A} {done counted : ℕ} (c : Counting xs done counted) where
    pub count_next : (d : A) {b : Bool} {one : ℕ} → done < length xs → b ≡ test (get_or xs done d)
        → one ≡ (if b then 1 else 0) → Counting xs (done + 1) (counted + one)
    count_next d {b} {one} l = go b
      where
        go : (b : Bool) → b ≡ test (get_or xs done d) → one ≡ (if b then 1 else 0)
            → Counting xs (done + 1) (counted + one)
        go true e o =
            let few = c.few in
            let rest = rw (drop-cons xs done d l, ← e) at c.rest in
            record { within = omega arith; few = omega arith; rest = rw (add-one done, o) (omega arith) }
        go false e o =
            let few = c.few in
            let rest = rw (drop-cons xs done d l, ← e) at c.rest in
            record { within = omega arith; few = omega arith; rest = rw (add-one done, o) (omega arith) }

    pub counted-all : length xs ≤ done → counted ≡ length (keep test xs)
    counted-all l =
        let within = c.within in
        let all : done ≡ length xs = omega arith in
        let rest = rw (all, drop-length xs) at c.rest in
        omega arith

-- What a test adds to a count.
pub one_counted : (b : Bool) {one : ℕ} → one ≡ from_bool b → one ≡ (if b then 1 else 0)
one_counted true e = e
one_counted false e = e

pub at_most_one : (b : Bool) {n : ℕ} → n ≡ (if b then 1 else 0) → n ≤ 1
at_most_one true e = omega arith
at_most_one false e = omega arith
