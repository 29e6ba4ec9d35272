-- Seats for codes: each code takes the first free seat from its own start on, so that a walk from there finds it.
-- Assumes nothing.
use Rattle.std.specs.Prelude.{◌≡◌, refl, List, ◌≢◌, Bool, true, false, ℕ, zero, suc, ◌+◌, ◌*◌, ◌-◌, ◌/◌, ◌%◌, ◌≤◌, ◌<◌, eqb, ltb, length, get_or, set, replicate}
use Rattle.std.proofs.Common.{sym, ◌∙◌, mod-lt, mul_comm, div-lt_iff_lt-mul, mul-lt-mul_of_pos_right, add-one, arith, below_more, ltb-true, eqb-true, length-set, get_or-set_same, get_or-set_other}
use Rattle.std.proofs.lemmas.Bool.{eqb-false}
use Rattle.std.proofs.lemmas.List.{length-replicate}
use Rattle.std.specs.Prelude.{if◌then◌else◌}
use Rattle.rules.specs.Sound.{distinct}
use Rattle.distinct.specs.Distinct.{code, distinct-passes, twice_fails}

-- ## Definitions

-- Where the walk of a code starts, of so many seats: the code alone tells, and codes near each other start apart.
unfoldable pub start_of : (many mine : ℕ) → ℕ
start_of many mine =
    (mine % 4294967296 * 1640531527 + mine / 4294967296 * 1481765933) % 4294967296 * many / 4294967296

-- The seat after a seat: the first after the last.
abbrev pub after : (many at : ℕ) → ℕ
after many at = if ltb (at + 1) many then at + 1 else 0

-- A seat holds 0, or one more than the place of the code that took it. Here a code took it that differs from mine.
pub record Other (codes seats : List ℕ) (mine at : ℕ) : Type 0 where
  pub place : ℕ
  pub taken : get_or seats at 0 ≡ suc place
  pub differs : code codes place ≢ mine

module _ (codes seats : List ℕ) (many mine : ℕ) where
  -- A walk from a seat on finds the place of an equal code.
  pub data Finds : (at place : ℕ) → Type 0 where
    here : {at place : ℕ} → get_or seats at 0 ≡ suc place → code codes place ≡ mine → Finds at place
    on : {at place : ℕ} → Other codes seats mine at → Finds (after many at) place → Finds at place

  -- A walk from its start on comes to a seat.
  pub data Comes (start : ℕ) : ℕ → Type 0 where
    stands : Comes start start
    walks : {at : ℕ} → Comes start at → Other codes seats mine at → Comes start (after many at)

-- With so many codes seated, a walk for each finds it.
pub record Seated (codes seats : List ℕ) (many done : ℕ) : Type 0 where
  pub few : (k : ℕ) → get_or seats k 0 ≤ done
  pub found : (j : ℕ) → j < done → Finds codes seats many (code codes j) (start_of many (code codes j)) j

-- The next one's walk has come to a seat.
pub record Walking (codes seats : List ℕ) (many done at : ℕ) : Type 0 where
  pub seated : Seated codes seats many done
  pub comes : Comes codes seats many (code codes done) (start_of many (code codes done)) at
  pub left : done < length codes
  pub within : at < many
  pub long : length seats ≡ many

-- ## Where a walk goes

start-within : {many : ℕ} (mine : ℕ) → 0 < many → start_of many mine < many
unfolding start_of
start-within {many} mine l =
    (div-lt_iff_lt-mul {k = 4294967296} (omega arith)).1
    (rw (mul_comm many 4294967296) (mul-lt-mul_of_pos_right (mod-lt _ (omega arith)) l))

after-within : {many at : ℕ} → at < many → after many at < many
after-within {many} {at} l = go (ltb (at + 1) many) refl
  where
    go : (b : Bool) → ltb (at + 1) many ≡ b → (if b then at + 1 else 0) < many
    go true e = ltb-true (at + 1) many e
    go false e = omega arith

-- ## What a walk finds

one_place : {n p q : ℕ} → n ≡ suc p → n ≡ suc q → p ≡ q
one_place t u = omega arith

module _ {codes seats : List ℕ} {many mine : ℕ} where
  finds_one : {at p q : ℕ} → Finds codes seats many mine at p → Finds codes seats many mine at q → p ≡ q
  finds_one (here t e) (here u f) = one_place t u
  finds_one (here t e) (on o r) = absurd (o.differs (rw (one_place t o.taken) at e))
  finds_one (on o r) (here t e) = absurd (o.differs (rw (one_place t o.taken) at e))
  finds_one (on o r) (on u t) = finds_one r t

  come_finds : {start at p : ℕ} → Comes codes seats many mine start at → Finds codes seats many mine at p
      → Finds codes seats many mine start p
  come_finds stands f = f
  come_finds (walks c o) f = come_finds c (on o f)

-- A free seat is taken: what walks found they find, since they went by no free seat.
module _ (codes seats : List ℕ) (many mine free v : ℕ) (empty : get_or seats free 0 ≡ 0) where
  still_taken : (at : ℕ) {p : ℕ} → get_or seats at 0 ≡ suc p → get_or (set seats free v) at 0 ≡ suc p
  still_taken at t =
      get_or-set_other seats free at v 0 (λ e. let none = rw (← e) at empty in absurd (omega arith)) ∙ t

  still_other : {at : ℕ} → Other codes seats mine at → Other codes (set seats free v) mine at
  still_other {at} o = record { place = o.place; taken = still_taken at o.taken; differs = o.differs }

  still_finds : {at p : ℕ} → Finds codes seats many mine at p → Finds codes (set seats free v) many mine at p
  still_finds {at} (here t e) = here (still_taken at t) e
  still_finds (on o f) = on (still_other o) (still_finds f)

  still_comes : {start at : ℕ} → Comes codes seats many mine start at
      → Comes codes (set seats free v) many mine start at
  still_comes stands = stands
  still_comes (walks c o) = walks (still_comes c) (still_other o)

-- ## A turn

zero_seat : (many k : ℕ) → code (replicate many 0) k ≡ 0
zero_seat zero k = refl
zero_seat (suc many) zero = refl
zero_seat (suc many) (suc k) = zero_seat many k

pub walk_begins : (codes : List ℕ) {seats : List ℕ} {many at : ℕ} → seats ≡ replicate many 0
    → at ≡ start_of many (code codes 0) → 0 < length codes → 0 < many → Walking codes seats many 0 at
walk_begins codes {seats} {many} clear start l m =
    rw (clear, start)
    (record {
      seated = record { few = λ k. omega (arith, zero_seat many k); found = λ j i. absurd (omega arith) };
      comes = stands;
      left = l;
      within = start-within (code codes 0) m;
      long = length-replicate many 0;
    })

module _
    {codes seats : List ℕ}
    {many done at : ℕ}
    (w : Walking codes seats many done at)
    {seat : ℕ}
    (read : seat ≡ get_or seats at 0)
  where
    module _ (taken : seat ≢ 0) where
      pub place-before : seat - 1 < done
      place-before = omega (arith, w.seated.few at)

      pub met_equal : code codes (seat - 1) ≡ code codes done → distinct codes ≡ false
      met_equal = twice_fails codes (seat - 1) done place-before w.left

      pub walks_on : {next : ℕ} → code codes (seat - 1) ≢ code codes done → next ≡ after many at
          → Walking codes seats many done next
      walks_on d step =
          rw step
          (record {
            seated = w.seated;
            comes = walks w.comes (record { place = seat - 1; taken = omega arith; differs = d });
            left = w.left;
            within = after-within w.within;
            long = w.long;
          })

    module _ (free : seat ≡ 0) where
      empty : get_or seats at 0 ≡ 0
      empty = sym read ∙ free

      one_more : Seated codes (set seats at (done + 1)) many (done + 1)
      one_more =
          record {
            few = few;
            found = below_more _ _ (λ j l. still_finds _ _ _ _ _ _ empty (w.seated.found j l)) mine;
          }
        where
          few : (k : ℕ) → get_or (set seats at (done + 1)) k 0 ≤ done + 1
          few k = go (eqb k at) refl
            where
              go : (b : Bool) → eqb k at ≡ b → get_or (set seats at (done + 1)) k 0 ≤ done + 1
              go true e = rw (eqb-true k at e, get_or-set_same seats at (done + 1) 0 (omega arith)) (omega arith)
              go false e =
                  rw (get_or-set_other seats at k (done + 1) 0 (eqb-false k at e)) (omega (arith, w.seated.few k))

          mine : Finds codes (set seats at (done + 1)) many (code codes done) (start_of many (code codes done)) done
          mine =
              come_finds (still_comes _ _ _ _ _ _ empty w.comes)
              (here (get_or-set_same seats at (done + 1) 0 (omega arith) ∙ add-one done) refl)

      -- Equal codes have the same walk, which finds one place.
      pub all_seated : done + 1 ≡ length codes → distinct codes ≡ true
      all_seated all =
          distinct-passes codes (λ i j l m e.
          finds_one (one_more.found i (omega arith)) (rw e (one_more.found j (omega arith))))

      pub sits_down : {next : ℕ} → done + 1 ≢ length codes → next ≡ start_of many (code codes (done + 1))
          → Walking codes (set seats at (done + 1)) many (done + 1) next
      sits_down more start =
          rw start
          (record {
            seated = one_more;
            comes = stands;
            left = omega (arith, w.left);
            within = start-within (code codes (done + 1)) (omega (arith, w.within));
            long = length-set seats at (done + 1) ∙ w.long;
          })
