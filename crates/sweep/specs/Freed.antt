-- The passes together are a sweep, and what is free more after them is what it freed.
-- Assumes nothing.
use Rattle.std.specs.Prelude.{Bool, true, false, not, List, [], ◌∷◌, map, ◌≡◌, ℕ, suc, ◌+◌, ◌-◌, ◌≤◌, eqb, length}
use Rattle.std.proofs.Common.{◌∙◌, ap, arith}
use Rattle.std.proofs.Math.Path.{ap₂, fun_ext}
use Rattle.std.specs.Prelude.{if◌then◌else◌}
use Rattle.store.specs.Lists.{any, keep}
use Rattle.store.specs.Model.{Model, free_shape, free_table}
use Rattle.store.specs.Layout.{parse}
use Rattle.store.specs.Image.{Becomes, and_then}
use Rattle.store.specs.declared.Limits.{Limits}
use Rattle.rules.specs.Sweep.{sweep_shapes, sweep_tables, sweep_edge, swept_to, reached, swept, in_use}
use Rattle.rules.specs.Calls.{Freed, Yes, perform, sweep}
use Rattle.rules.specs.Replies.{Answers}
use Rattle.theorems.specs.Facts.{Sound}
use Rattle.theorems.specs.SweepLaws.{shapes-freed, tables-freed}
use Rattle.theorems.specs.HeldChains.{swept_on_chain}
use Rattle.sweep.specs.Marks.{marked}
use Rattle.store.specs.Passes.{with_shapes, with_tables, with_edges}

-- ## The passes

swept_by_marks : (m : Model) (marks : List ℕ) → ((n : ℕ) → marked marks n ≡ any (eqb n) (reached m))
    → swept_to (marked marks) m ≡ swept m
unfolding swept
swept_by_marks m marks says = ap (λ (stay : ℕ → Bool). swept_to stay m) (fun_ext says)

pub passes_sweep : {start shaped tabled end : List ℕ} (marks : List ℕ)
    → ((n : ℕ) → marked marks n ≡ any (eqb n) (reached (parse start)))
    → Becomes start shaped (with_shapes (parse start) (sweep_shapes (marked marks) (parse start).shapes))
    → Becomes shaped tabled
    (with_tables (parse shaped) (sweep_tables (parse shaped).shapes (parse shaped).tables))
    → Becomes tabled end (with_edges (parse tabled) (map (sweep_edge (marked marks)) (parse tabled).edges))
    → Becomes start end (swept (parse start))
unfolding swept_to
passes_sweep {start} {shaped} {tabled} {end} marks says shapes tables edges =
    rw (← together) (and_then shapes (and_then tables edges))
  where
    all : with_edges (parse tabled) (map (sweep_edge (marked marks)) (parse tabled).edges)
        ≡ swept_to (marked marks) (parse start)
    all = rw (tables.parsed, shapes.parsed)

    together : with_edges (parse tabled) (map (sweep_edge (marked marks)) (parse tabled).edges)
        ≡ swept (parse start)
    together = all ∙ swept_by_marks (parse start) marks says

-- ## What is freed

module _ {A : Type 0} (is_free : A → Bool) where
  -- All are in use or free.
  in_use_free : (xs : List A) → in_use is_free xs + length (keep is_free xs) ≡ length xs
  in_use_free [] = omega arith
  in_use_free (x ∷ xs) = go (is_free x) (in_use_free xs)
    where
      go : (b : Bool) → in_use is_free xs + length (keep is_free xs) ≡ length xs
          → length (if not b then x ∷ keep (λ x. not (is_free x)) xs else keep (λ x. not (is_free x)) xs)
          + length (if b then x ∷ keep is_free xs else keep is_free xs)
          ≡ suc (length xs)
      go true again = omega arith
      go false again = omega arith

  -- Those free before and after: how many were freed.
  pub record Difference (before after : ℕ) (xs ys : List A) : Type 0 where
    pub fits : before ≤ after
    pub freed : after - before ≡ in_use is_free xs - in_use is_free ys

  difference : (xs ys : List A) (gone : ℕ) {before after : ℕ} → length ys ≡ length xs
      → in_use is_free xs ≡ in_use is_free ys + gone
      → before ≡ length (keep is_free xs) → after ≡ length (keep is_free ys) → Difference before after xs ys
  difference xs ys gone long sum b a =
      let first = in_use_free xs in
      let last = in_use_free ys in
      record { fits = omega arith; freed = omega arith }

module _
    {start end : List ℕ}
    (sound : Sound (parse start))
    (b : Becomes start end (swept (parse start)))
  where
    abbrev m : Model
    m = parse start

    pub freed-shapes : {before after : ℕ} → before ≡ length (keep free_shape m.shapes)
        → after ≡ length (keep free_shape (parse end).shapes)
        → Difference free_shape before after m.shapes (swept m).shapes
    freed-shapes f g =
        let w = swept_on_chain m sound in
        difference free_shape m.shapes (swept m).shapes _ (ap (λ (l : Limits). l.S) w.limits)
        (shapes-freed w) f (g ∙ ap (λ (j : Model). length (keep free_shape j.shapes)) b.parsed)

    pub freed-tables : {before after : ℕ} → before ≡ length (keep free_table m.tables)
        → after ≡ length (keep free_table (parse end).tables)
        → Difference free_table before after m.tables (swept m).tables
    freed-tables f g =
        let w = swept_on_chain m sound in
        difference free_table m.tables (swept m).tables _ (ap (λ (l : Limits). l.T) w.limits)
        (tables-freed w) f (g ∙ ap (λ (j : Model). length (keep free_table j.tables)) b.parsed)

    -- "It answers how many shapes and tables it freed."
    pub sweep_answers : {shapes tables : ℕ}
        → shapes ≡ in_use free_shape m.shapes - in_use free_shape (swept m).shapes
        → tables ≡ in_use free_table m.tables - in_use free_table (swept m).tables
        → Answers start end (perform m sweep) (Yes (Freed shapes tables))
    unfolding perform
    sweep_answers s t = (b, ap₂ (λ (x y : ℕ). Yes (Freed x y)) s t)
