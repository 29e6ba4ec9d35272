-- What a sweep leaves at each place and how much it frees, for any set of places that stay.
-- Assumes nothing.
use Rattle.std.specs.Prelude.{Bool, ◌&&◌, not, List, [], ◌∷◌, ◌↔◌, ◌⊎◌, ◌≢◌, ◌≡◌, ℕ, suc, ◌+◌, length, get_or}
use Rattle.std.proofs.Math.Bool.{true, false}
use Rattle.std.proofs.lemmas.Bool.{false≢true}
use Rattle.std.proofs.Common.{inl, inr, sym, ◌∙◌, ap, ap₂, add-zero, add-suc, suc-add, one-add, arith}
use Rattle.std.proofs.Math.Path.{refl}
use Rattle.std.proofs.lemmas.List.{length-map}
use Rattle.std.specs.Prelude.{if◌then◌else◌}
use Rattle.store.specs.Lists.{at, numbered, keep, any}
use Rattle.store.specs.Model.{free, Model, limits_of, no_shape, no_edge, free_shape, free_table, shape_at}
use Rattle.store.specs.Model.{table_at, edge_at}
use Rattle.store.specs.PlaceLaws.{same?, at_map, at-map-numbered, length-numbered}
use Rattle.store.specs.declared.Limits.{Limits}
use Rattle.store.specs.declared.Edge.{Edge}
use Rattle.rules.specs.Sound.{uses}
use Rattle.rules.specs.Sweep.{deadened, sweep_edge, swept_to, in_use}
use Rattle.rules.specs.Calls.{Freed, freed}
use Rattle.theorems.specs.Facts.{User}
use Rattle.theorems.specs.TestsSay.{any_user, user_any}

-- ## Place by place

-- What stands at a place after a sweep: what stood there if it stays, and nothing if not.
pub data AfterSweep {A : Type 0} (Stays : Type 0) (nothing before now : A) : Type 0 where
  left : Stays → now ≡ before → AfterSweep Stays nothing before now
  gone : ¬ Stays → now ≡ nothing → AfterSweep Stays nothing before now

-- An edge after a sweep: gone if its parent is freed, dead if only its child is, and otherwise as it was.
pub data EdgeAfterSweep (P : ℕ → Type 0) (before now : Edge) : Type 0 where
  left : P before.parent → (before.child ≢ 0 → P before.child) → now ≡ before
      → EdgeAfterSweep P before now
  died : P before.parent → before.child ≢ 0 → ¬ (P before.child) → now ≡ deadened before
      → EdgeAfterSweep P before now
  gone : ¬ (P before.parent) → now ≡ no_edge → EdgeAfterSweep P before now

-- j is what a sweep of m leaves, P saying which places stay. A table stays that a shape left uses.
pub record Swept (P : ℕ → Type 0) (m j : Model) : Type 0 where
  pub limits : limits_of j ≡ limits_of m
  pub shapes : (n : ℕ) → AfterSweep (P n) no_shape (shape_at m n) (shape_at j n)
  pub tables : (t : ℕ) → AfterSweep (User j t) free (table_at m t) (table_at j t)
  pub edges : (e : ℕ) → EdgeAfterSweep P (edge_at m e) (edge_at j e)

module _ {A : Type 0} {Stays : Type 0} {nothing before now : A} where
  pub stays_same : Stays → AfterSweep Stays nothing before now → now ≡ before
  stays_same s (left t e) = e
  stays_same s (gone away e) = absurd (away s)

  after_sweep : (b : Bool) → (b ≡ true) ↔ Stays → now ≡ (if b then before else nothing)
      → AfterSweep Stays nothing before now
  after_sweep true is e = left (is.0 refl) e
  after_sweep false is e = gone (λ s. false≢true (is.1 s)) e

if_same : {A : Type 0} (b : Bool) (x : A) → (if b then x else x) ≡ x
if_same true x = refl
if_same false x = refl

-- A dead edge made dead is the same.
dead_same : (e : Edge) → e.child ≡ 0 → deadened e ≡ e
dead_same e z = rw (← z)

module _ (stays : ℕ → Bool) (P : ℕ → Type 0) (m : Model) (is : (n : ℕ) → (stays n ≡ true) ↔ P n) where
  abbrev j : Model
  j = swept_to stays m

  a-shape : (n : ℕ) → shape_at j n ≡ (if stays n then shape_at m n else no_shape)
  unfolding shape_at swept_to
  a-shape n = at-map-numbered _ no_shape no_shape (λ k. if_same (stays k) no_shape) m.shapes n

  a-table : (t : ℕ) → table_at j t ≡ (if any (uses t) j.shapes then table_at m t else free)
  unfolding table_at swept_to
  a-table t = at-map-numbered _ free free (λ k. if_same (any (uses k) j.shapes) free) m.tables t

  an_edge : (e : ℕ) → edge_at j e ≡ sweep_edge stays (edge_at m e)
  unfolding edge_at swept_to
  an_edge e = at_map (sweep_edge stays) m.edges e no_edge (go (stays 0))
    where
      go : (b : Bool) → (if b then (if b then no_edge else deadened no_edge) else no_edge) ≡ no_edge
      go true = refl
      go false = refl

  after-edge : (x y : Edge) → y ≡ sweep_edge stays x → EdgeAfterSweep P x y
  after-edge x y =
      go (stays x.parent) (stays x.child) (is x.parent) (is x.child) (same? x.child 0)
    where
      go : (p c : Bool) → (p ≡ true) ↔ P x.parent → (c ≡ true) ↔ P x.child
          → (x.child ≡ 0) ⊎ (x.child ≢ 0)
          → y ≡ (if p then (if c then x else deadened x) else no_edge)
          → EdgeAfterSweep P x y
      go true true is_p is_c z e = left (is_p.0 refl) (λ some. is_c.0 refl) e
      go true false is_p is_c (inl z) e = left (is_p.0 refl) (λ some. absurd (some z)) (e ∙ dead_same x z)
      go true false is_p is_c (inr some) e = died (is_p.0 refl) some (λ s. false≢true (is_c.1 s)) e
      go false c is_p is_c z e = gone (λ s. false≢true (is_p.1 s)) e

  same_limits : limits_of j ≡ limits_of m
  unfolding swept_to
  same_limits = simp (length-map, length-numbered)

  -- Where a test says which places stay, the definition of a sweep leaves just this.
  pub swept-to : Swept P m (swept_to stays m)
  swept-to =
      record {
        limits = same_limits;
        shapes = λ n. after_sweep (stays n) (is n) (a-shape n);
        tables = λ t. after_sweep (any (uses t) j.shapes) (any_user j t, user_any j t) (a-table t);
        edges = λ e. after-edge (edge_at m e) (edge_at j e) (an_edge e);
      }

-- ## How much is freed

-- The number of places that are in use before and free after.
abbrev pub freed_between : {A : Type 0} → (is_free : A → Bool) (nothing : A) → (before after : List A) → ℕ
freed_between is_free d before after =
    length (keep (λ p. not (is_free p.1) && is_free (at after p.0 d)) (numbered 1 before))

-- One place more: in use at both times, freed, or free at both times; those in use before are the sum still.
one_more : {A B : Type 0} (a b : Bool) (x y : A) (z : B) (before after : List A) (between : List B)
    → (a ≡ true → b ≡ true)
    → length before ≡ length after + length between
    → length (if not a then x ∷ before else before)
    ≡ length (if not b then y ∷ after else after) + length (if not a && b then z ∷ between else between)
one_more true true x y z before after between h e = e
one_more true false x y z before after between h e = absurd (false≢true (h refl))
one_more false true x y z before after between h e = omega arith
one_more false false x y z before after between h e = omega arith

module _ {A : Type 0} (is_free : A → Bool) (d : A) where
  -- So the sum holds of places numbered from a start; `later` gives the record at a place afterwards.
  in_use_from : (later : ℕ → A) (start : ℕ) (xs ys : List A) → length ys ≡ length xs
      → ((k : ℕ) → get_or ys k d ≡ later (start + k))
      → ((k : ℕ) → is_free (get_or xs k d) ≡ true → is_free (get_or ys k d) ≡ true)
      → in_use is_free xs
      ≡ in_use is_free ys
      + length (keep (λ p. not (is_free p.1) && is_free (later p.0)) (numbered start xs))
  in_use_from later start [] [] long is stay = omega arith
  in_use_from later start [] (y ∷ ys) long is stay = absurd (omega arith)
  in_use_from later start (x ∷ xs) [] long is stay = absurd (omega arith)
  in_use_from later start (x ∷ xs) (y ∷ ys) long is stay =
      let here : later start ≡ y = sym (is 0 ∙ rw add-zero) in
      let next : (k : ℕ) → get_or ys k d ≡ later (suc start + k) = λ k. is (suc k) ∙ rw (add-suc, suc-add) in
      let rest = in_use_from later (suc start) xs ys (omega arith) next (λ k. stay (suc k)) in
      rw here (one_more (is_free x) (is_free y) x y (start, x) _ _ _ (stay 0) rest)

  -- Where what is free stays free, those in use are those in use after and the freed ones.
  in_use_freed : (xs ys : List A) → length ys ≡ length xs
      → ((n : ℕ) → is_free (at xs n d) ≡ true → is_free (at ys n d) ≡ true)
      → in_use is_free xs ≡ in_use is_free ys + freed_between is_free d xs ys
  in_use_freed xs ys long stay =
      in_use_from (λ n. at ys n d) 1 xs ys long (λ k. rw one-add) (λ k. stay (suc k))

  stays_free : {Stays : Type 0} {before now : A} → is_free d ≡ true → AfterSweep Stays d before now
      → is_free before ≡ true → is_free now ≡ true
  stays_free out (left s e) f = ap is_free e ∙ f
  stays_free out (gone away e) f = ap is_free e ∙ out

module _ {P : ℕ → Type 0} {m j : Model} (w : Swept P m j) where
  pub shapes-freed : in_use free_shape m.shapes
      ≡ in_use free_shape j.shapes + freed_between free_shape no_shape m.shapes j.shapes
  unfolding shape_at
  shapes-freed =
      in_use_freed free_shape no_shape m.shapes j.shapes (ap (λ (l : Limits). l.S) w.limits)
      (λ n. stays_free free_shape no_shape refl (w.shapes n))

  pub tables-freed : in_use free_table m.tables
      ≡ in_use free_table j.tables + freed_between free_table free m.tables j.tables
  unfolding table_at
  tables-freed =
      in_use_freed free_table free m.tables j.tables (ap (λ (l : Limits). l.T) w.limits)
      (λ t. stays_free free_table free refl (w.tables t))

  -- So a sweep answers how many shapes and tables it frees: the differences in `freed` never cut off.
  pub freed-answer : freed m j
      ≡ Freed
      (freed_between free_shape no_shape m.shapes j.shapes)
      (freed_between free_table free m.tables j.tables)
  freed-answer = ap₂ Freed (omega (arith, shapes-freed)) (omega (arith, tables-freed))
