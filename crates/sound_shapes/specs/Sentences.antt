-- Each sentence of soundness is its test of every record.
-- Assumes nothing.
use Rattle.std.specs.Prelude.{◌≡◌, Bool, true, false, ◌&&◌, ◌||◌, List, [], ◌∷◌, map, ℕ, suc, ◌+◌, length, get_or}
use Rattle.std.specs.List.{list_all, range_with_len}
use Rattle.std.proofs.Math.Path.{refl, ap}
use Rattle.std.proofs.Common.{sym, ◌∙◌, ap₂, arith, add-zero, zero-add}
use Rattle.std.proofs.Math.Bool.{or-true, or-and_distrib_left}
use Rattle.store.specs.Lists.{numbered, every, all}
use Rattle.store.specs.Model.{Model, free_shape}
use Rattle.store.specs.declared.Shape.{Shape}
use Rattle.rules.specs.Sound.{each_shape, in_range, table_in_use, free_zero, counts_fit, roots_zero}
use Rattle.rules.specs.Sound.{edges_good, transitions_limited, holds_limited, uniques_zero}
use Rattle.sound_shapes.specs.Tests.{shape_tests, shape_in_range, edge_in_range}
use Rattle.sound_shapes.specs.Tests.{shape_zero_if_free, edge_zero_if_free, good_shape, good_edge}

-- ## Places in turn

-- A test of each place is the test of each record.
pub every_place : {A : Type 0} (d : A) (test : A → Bool) (xs : List A) {probe : ℕ → Bool} {n : ℕ}
    → n ≡ length xs → ((k : ℕ) → probe k ≡ test (get_or xs k d))
    → list_all probe (range_with_len 0 n) ≡ every test xs
every_place {A} d test xs {probe} e h = rw e (from 0 xs (λ k. rw (zero-add k) (h k)))
  where
    from : (a : ℕ) (ys : List A) → ((k : ℕ) → probe (a + k) ≡ test (get_or ys k d))
        → list_all probe (range_with_len a (length ys)) ≡ every test ys
    from a [] here = refl
    from a (y ∷ ys) here =
        let first = here 0 in
        ap₂ ◌&&◌ (rw (add-zero a) at first)
        (from (a + 1) ys (λ k. let next : a + 1 + k ≡ a + suc k = omega arith in rw next (here (suc k))))

-- ## Tests joined

-- A test that does not see the place.
unplaced : {A : Type 0} (test : A → Bool) (start : ℕ) (xs : List A)
    → every (λ p. test p.1) (numbered start xs) ≡ every test xs
unplaced test start [] = refl
unplaced test start (x ∷ xs) = ap (λ (b : Bool). test x && b) (unplaced test (suc start) xs)

swap_middle : (a b c d : Bool) → ((a && b) && (c && d)) ≡ ((a && c) && (b && d))
swap_middle true true c d = refl
swap_middle true false true d = refl
swap_middle true false false d = refl
swap_middle false b c d = refl

-- Tests of each record join,
pub every-joins : {A : Type 0} (test other : A → Bool) (xs : List A)
    → (every test xs && every other xs) ≡ every (λ x. test x && other x) xs
every-joins test other [] = refl
every-joins test other (x ∷ xs) =
    swap_middle (test x) (every test xs) (other x) (every other xs)
    ∙ ap (λ (b : Bool). (test x && other x) && b) (every-joins test other xs)

every_same_test : {A : Type 0} {test other : A → Bool} → ((x : A) → test x ≡ other x)
    → (xs : List A) → every test xs ≡ every other xs
every_same_test h [] = refl
every_same_test h (x ∷ xs) = ap₂ ◌&&◌ (h x) (every_same_test h xs)

-- so do the sentences about each shape in use.
each-joins : (m : Model) (test other : ℕ → Shape → Bool)
    → (each_shape m test && each_shape m other) ≡ each_shape m (λ n s. test n s && other n s)
each-joins m test other =
    every-joins _ _ (numbered 1 m.shapes)
    ∙ every_same_test
    (λ p. sym (or-and_distrib_left (free_shape p.1) (test p.0 p.1) (other p.0 p.1)))
    (numbered 1 m.shapes)

each_true : (m : Model) → true ≡ each_shape m (λ n s. true)
each_true m = sym (always (numbered 1 m.shapes))
  where
    always : (ps : List (ℕ × Shape)) → every (λ p. free_shape p.1 || true) ps ≡ true
    always [] = refl
    always (p ∷ ps) = rw (or-true (free_shape p.1), always ps)

all_join : (m : Model) (tests : List (Shape → Bool))
    → all (map (λ test. each_shape m (λ n s. test s)) tests)
    ≡ each_shape m (λ n s. all (map (λ test. test s) tests))
all_join m [] = each_true m
all_join m (test ∷ tests) =
    ap (λ (b : Bool). each_shape m (λ n s. test s) && b) (all_join m tests)
    ∙ each-joins m (λ n s. test s) (λ n s. all (map (λ test. test s) tests))

-- ## Every record

module _ (m : Model) where
  pub in_range_lem : in_range m
      ≡ (every (shape_in_range (length m.shapes) (length m.tables)) m.shapes
      && every (edge_in_range (length m.shapes)) m.edges)
  unfolding in_range
  in_range_lem = ap (λ (b : Bool). b && every (edge_in_range (length m.shapes)) m.edges) (unplaced _ 1 m.shapes)

  pub free_zero_lem : free_zero m ≡ (every shape_zero_if_free m.shapes && every edge_zero_if_free m.edges)
  unfolding free_zero
  free_zero_lem = refl

  pub shapes_good : all
      (table_in_use m
      ∷ counts_fit m
      ∷ roots_zero m
      ∷ transitions_limited m
      ∷ holds_limited m
      ∷ uniques_zero m
      ∷ [])
      ≡ every (good_shape m) m.shapes
  unfolding table_in_use counts_fit roots_zero transitions_limited holds_limited uniques_zero
  shapes_good = all_join m (shape_tests m) ∙ unplaced _ 1 m.shapes

  pub edges_good_lem : edges_good m ≡ every (good_edge m) m.edges
  unfolding edges_good
  edges_good_lem = refl
