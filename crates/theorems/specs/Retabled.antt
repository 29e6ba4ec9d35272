-- A unique shape with other entries in its own table: the model stays sound, and every other shape is kept.
-- Assumes nothing.
use Rattle.std.specs.Prelude.{true, false, List, ◌⊎◌, ◌≢◌, ◌≡◌, ℕ, length}
use Rattle.std.proofs.Common.{inl, inr, sym, ◌∙◌, ap, arith}
use Rattle.std.proofs.Math.Path.{refl}
use Rattle.store.specs.Model.{free, put_shape, put_table, used, Model, limits_of, free_shape, free_table}
use Rattle.store.specs.Model.{shape_at, table_at, edge_at}
use Rattle.store.specs.Lists.{at, put}
use Rattle.store.specs.PlaceLaws.{length-put, same?, at-inside, AfterPut, after-put, put_here, put_elsewhere}
use Rattle.store.specs.ListLaws.{Decided, either, not-both}
use Rattle.store.specs.declared.Limits.{Limits}
use Rattle.store.specs.declared.Shape.{Shape}
use Rattle.store.specs.declared.Entry.{Entry}
use Rattle.rules.specs.Shapes.{shared, unique, entries}
use Rattle.theorems.specs.Facts.{Used, GoodWords, InLimits, ShapeSound, User, GoodTable, Sound}
use Rattle.rules.specs.InUse.{shared_used}
use Rattle.theorems.specs.Facts.{unique_used, shared-not-unique, child-shared}
use Rattle.theorems.specs.Holds.{shape-put}
use Rattle.theorems.specs.Grow.{whole-entries, FreshShape}
use Rattle.theorems.specs.Frame.{core, longer_same, ShapeCase, stays, vacant, made, Change, Keeps}
use Rattle.theorems.specs.Frame.{change_keeps, same_edge}

-- j is m with other words for the unique shape at n, and the entries es in its table.
pub record Retabled (m j : Model) (n : ℕ) (es : List Entry) : Type 0 where
  pub same_limits : limits_of j ≡ limits_of m
  -- the shape
  pub was_unique : unique (shape_at m n) ≡ true
  pub is_unique : unique (shape_at j n) ≡ true
  pub other_shapes : (k : ℕ) → k ≢ n → shape_at j k ≡ shape_at m k
  pub words : GoodWords (shape_at j n)
  pub limits : InLimits (shape_at j n)
  pub whole : (shape_at j n).properties ≡ length es
  -- its table
  pub same_table : (shape_at j n).table ≡ (shape_at m n).table
  pub table : table_at j (shape_at m n).table ≡ used es
  pub other_tables : (t : ℕ) → t ≢ (shape_at m n).table → table_at j t ≡ table_at m t
  pub good : GoodTable m.K es
  -- the edges
  pub edges : (e : ℕ) → edge_at j e ≡ edge_at m e

-- The shapes in use other than the one at n.
abbrev pub Others : Model → (n : ℕ) → ℕ → Type 0
Others m n k = Used m k × (k ≢ n)

module _ (m j : Model) (sound : Sound m) (n : ℕ) (es : List Entry) (r : Retabled m j n es) where
  abbrev T : ℕ
  T = (shape_at m n).table

  was_used_lem : Used m n
  was_used_lem = unique_used (shape_at m n) r.was_unique

  -- It is alone on its table, before and after.
  was_alone : (k : ℕ) → Used m k → (shape_at m k).table ≡ T → k ≡ n
  was_alone = (sound.shapes n was_used_lem).unique_alone r.was_unique

  is_alone : (k : ℕ) → Used j k → (shape_at j k).table ≡ T → k ≡ n
  is_alone k u q = go (same? k n)
    where
      go : (k ≡ n) ⊎ (k ≢ n) → k ≡ n
      go (inl e) = e
      go (inr e) = let same = r.other_shapes k e in was_alone k (rw same at u) (rw same at q)

  new_sound : ShapeSound j n (shape_at j n)
  new_sound =
      let its : table_at j (shape_at j n).table ≡ used es = ap (table_at j) r.same_table ∙ r.table in
      record {
        words = r.words;
        limits = r.limits;
        table_used = rw its;
        count_fits = rw its (omega (arith, r.whole));
        unique_whole = λ z. rw its r.whole;
        unique_alone = λ z k u q. is_alone k u (q ∙ r.same_table);
        child = λ c. not-both r.is_unique (shared-not-unique (shape_at j n) (child-shared (shape_at j n) c));
      }

  -- A shared shape is another.
  shared_other : (k : ℕ) → shared (shape_at m k) ≡ true → Others m n k
  shared_other k h = (
    shared_used (shape_at m k) h,
    λ e. not-both r.was_unique (shared-not-unique (shape_at m n) (rw e at h)),
  )

  other_table : (k : ℕ) → Others m n k → table_at j (shape_at m k).table ≡ table_at m (shape_at m k).table
  other_table k p = r.other_tables (shape_at m k).table (λ e. p.1 (was_alone k p.0 e))

  a-shape : (k : ℕ) → ShapeCase m j (Others m n) k
  a-shape k = go (same? k n) (either (free_shape (shape_at m k)))
    where
      go : (k ≡ n) ⊎ (k ≢ n) → Decided (free_shape (shape_at m k))
          → ShapeCase m j (Others m n) k
      go (inl e) u = rw e (made new_sound (λ x p z q. p.1 (was_alone x p.0 (sym q ∙ r.same_table))))
      go (inr e) (inl f) = vacant (r.other_shapes k e ∙ sound.free_shapes k f)
      go (inr e) (inr u) = stays (u, e)

  a-table : (t : ℕ) (fs : List Entry) → table_at j t ≡ used fs → (table_at m t ≡ used fs) ⊎ GoodTable j.K fs
  a-table t fs q = go (same? t T)
    where
      go : (t ≡ T) ⊎ (t ≢ T) → (table_at m t ≡ used fs) ⊎ GoodTable j.K fs
      go (inl e) =
          let same : fs ≡ es = cc r.table in
          inr (rw (same, ap (λ (l : Limits). l.K) r.same_limits) r.good)
      go (inr e) = inl (sym (r.other_tables t e) ∙ q)

  a_user : (t : ℕ) → free_table (table_at j t) ≡ false → User j t
  a_user t u = go (same? t T)
    where
      other : t ≢ T → User m t → User j t
      other ne k =
          let apart : k.place ≢ n = λ e. ne (sym k.its ∙ ap (λ (x : ℕ). (shape_at m x).table) e) in
          let same = r.other_shapes k.place apart in
          record { place = k.place; is_used = rw same k.is_used; its = rw same k.its }

      go : (t ≡ T) ⊎ (t ≢ T) → User j t
      go (inl e) =
          record { place = n; is_used = unique_used (shape_at j n) r.is_unique; its = r.same_table ∙ sym e }
      go (inr e) = other e (sound.users t (rw (r.other_tables t e) at u))

  retabled_change : Change m j (Others m n)
  retabled_change =
      record {
        same_limits = r.same_limits;
        staying = λ k p. record {
          was_used = p.0;
          previous = λ c.
              shared_other (shape_at m k).previous ((sound.shapes k p.0).child c).previous_shared;
          same_core = ap core (r.other_shapes k p.1);
          limits = rw (r.other_shapes k p.1) (sound.shapes k p.0).limits;
          longer = rw (other_table k p) (longer_same (table_at m (shape_at m k).table));
          unique_table = λ z. other_table k p;
          edges = λ e h. r.edges e;
        };
        shapes = a-shape;
        tables = a-table;
        users = a_user;
        edges = λ e. same_edge m j sound shared_other e (r.edges e);
      }

  pub retabled_keeps : Keeps m j (Others m n)
  retabled_keeps = change_keeps sound retabled_change

  pub retabled_entries : entries j (shape_at j n) ≡ es
  retabled_entries = whole-entries j (shape_at j n) es (rw r.same_table r.table) r.whole

-- ## As the rules write it

module _ (m : Model) (sound : Sound m) (n : ℕ) (is_unique : unique (shape_at m n) ≡ true) (es : List Entry)
    (good : GoodTable m.K es) where
  abbrev its : ℕ
  its = (shape_at m n).table

  is_used_lem : Used m n
  is_used_lem = unique_used (shape_at m n) is_unique

  table-at : (k : ℕ) → AfterPut its k (used es) (table_at m k) (at (put m.tables its (used es)) k free)
  unfolding table_at
  table-at k =
      let inside = at-inside free_table m.tables its free refl (sound.shapes n is_used_lem).table_used in
      after-put m.tables its (used es) free inside.0 inside.1 k

  -- The entries alone.
  pub table-put : (shape_at m n).properties ≡ length es → Retabled m (put_table m its (used es)) n es
  unfolding shape_at table_at edge_at put_table
  table-put whole =
      record {
        same_limits = simp length-put;
        was_unique = is_unique;
        is_unique = is_unique;
        other_shapes = λ k ne. refl;
        words = (sound.shapes n is_used_lem).words;
        limits = (sound.shapes n is_used_lem).limits;
        whole = whole;
        same_table = refl;
        table = put_here (table-at its);
        other_tables = λ t ne. put_elsewhere ne (table-at t);
        good = good;
        edges = λ e. refl;
      }

  pub both_stands : (s : Shape) → shape_at (put_shape (put_table m its (used es)) n s) n ≡ s
  unfolding shape_at put_shape put_table
  both_stands s = put_here (shape-put m sound n is_used_lem s n)

  -- The entries and the shape.
  pub both-put : (s : Shape) → unique s ≡ true → FreshShape s its (length es)
      → Retabled m (put_shape (put_table m its (used es)) n s) n es
  unfolding shape_at table_at edge_at put_shape put_table
  both-put s still fit =
      let here_it_is = both_stands s in
      record {
        same_limits = simp length-put;
        was_unique = is_unique;
        is_unique = rw here_it_is still;
        other_shapes = λ k ne. put_elsewhere ne (shape-put m sound n is_used_lem s k);
        words = rw here_it_is fit.words;
        limits = rw here_it_is fit.limits;
        whole = rw here_it_is fit.whole;
        same_table = rw here_it_is fit.its_table;
        table = put_here (table-at its);
        other_tables = λ t ne. put_elsewhere ne (table-at t);
        good = good;
        edges = λ e. refl;
      }
