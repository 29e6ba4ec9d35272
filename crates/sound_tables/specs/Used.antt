-- The users of each table, counted shape by shape, and what their numbers say.
-- Assumes nothing.
use Rattle.std.specs.Prelude.{◌≡◌, Bool, ◌&&◌, ◌||◌, not, List, [], ◌∷◌, ◌⊎◌, suc, eqb, leb}
use Rattle.std.specs.List.{list_all, range_with_len}
use Rattle.std.proofs.Math.Path.{refl}
use Rattle.std.proofs.Common.{sym, ap, ◌∙◌, inl, inr, ap₂, add-zero, add-one, arith, eqb-true, eq-eqb, ne_eqb, get_or-set_same, get_or-set_other}
use Rattle.std.proofs.Math.Bool.{true, false}
use Prim.Native.Nat.{ℕ, ◌+◌, ◌≤◌, ◌<◌}
use Rattle.std.proofs.Math.ListN.{length, get_or, set, length-set}
use Rattle.std.specs.Prelude.{if◌then◌else◌}
use Rattle.store.specs.Lists.{numbered, every}
use Rattle.store.specs.PlaceLaws.{same?}
use Rattle.store.specs.Model.{Table, free, Model, no_shape, free_shape, shape_at, table_at}
use Rattle.store.specs.Layout.{parse}
use Rattle.store.specs.Scans.{Counting, count_next, shape-next, table-next}
use Rattle.store.specs.Image.{Formed}
use Rattle.store.specs.declared.Shape.{Shape}
use Rattle.rules.specs.Shapes.{unique}
use Rattle.rules.specs.Sound.{each_shape, on_table, each_table, in_range, uses, users, tables_used}
use Rattle.rules.specs.InUse.{shape-ranges}

-- ## Names for parts of the sentence

abbrev pub table_used : Model → ℕ × Table → Bool
table_used m p = on_table (λ t es. leb 1 (users m t)) p

abbrev pub every_table_used : Model → Bool
every_table_used m = each_table m (λ t es. leb 1 (users m t))

abbrev pub unique_alone : Model → ℕ × Shape → Bool
unique_alone m p = free_shape p.1 || (not (unique p.1) || eqb (users m p.1.table) 1)

abbrev pub every_unique_alone : Model → Bool
every_unique_alone m = each_shape m (λ n s. not (unique s) || eqb (users m s.table) 1)

-- ## Counting

-- The table of a shape in use has a place among the counts,
abbrev pub Sited : (counts : List ℕ) → Shape → Type 0
Sited counts s = free_shape s ≡ false → s.table < length counts

-- and one more user can be counted.
pub record Countable (counts : List ℕ) (s : Shape) : Type 0 where
  pub sited : Sited counts s
  pub small : free_shape s ≡ false → get_or counts s.table 0 ≤ 65535

-- The counts with a shape's table counted once more.
unfoldable pub with_user : (counts : List ℕ) → Shape → List ℕ
with_user counts s = if free_shape s then counts else set counts s.table (get_or counts s.table 0 + 1)

module _ (counts : List ℕ) (s : Shape) where
  pub no_user : s.state ≡ 0 → counts ≡ with_user counts s
  unfolding with_user
  no_user e = rw (eq-eqb _ 0 e)

  pub one_user : {t : ℕ} → (s.state ≡ 0 → ⊥) → t ≡ s.table
      → set counts t (get_or counts t 0 + 1) ≡ with_user counts s
  unfolding with_user
  one_user n e = rw (ne_eqb _ 0 n, e)

  length_user : length (with_user counts s) ≡ length counts
  unfolding with_user
  length_user = go (free_shape s)
    where
      go : (b : Bool)
          → length (if b then counts else set counts s.table (get_or counts s.table 0 + 1))
          ≡ length counts
      go true = refl
      go false = simp length-set

  count_user : (t : ℕ) → Sited counts s
      → get_or (with_user counts s) t 0 ≡ get_or counts t 0 + (if uses t s then 1 else 0)
  unfolding with_user
  count_user t h = go (free_shape s) refl
    where
      new : ℕ
      new = get_or counts s.table 0 + 1

      go : (b : Bool) → free_shape s ≡ b
          → get_or (if b then counts else set counts s.table new) t 0
          ≡ get_or counts t 0 + (if not b && eqb s.table t then 1 else 0)
      go true e = sym (add-zero _)
      go false e = at (same? t s.table)
        where
          at : (t ≡ s.table) ⊎ (t ≡ s.table → ⊥)
              → get_or (set counts s.table new) t 0 ≡ get_or counts t 0 + (if eqb s.table t then 1 else 0)
          at (inl q) = rw (q, eq-eqb s.table s.table refl) (get_or-set_same counts s.table new 0 (h e))
          at (inr q) =
              rw (ne_eqb s.table t (λ r. q (sym r)), add-zero) (get_or-set_other counts s.table t new 0 q)

-- There is a place for each table, and for 0.
abbrev pub Roomy : Model → (counts : List ℕ) → Type 0
Roomy m counts = length m.tables < length counts

-- So many shapes are counted.
pub record CountingUsers (m : Model) (many done : ℕ) (counts : List ℕ) : Type 0 where
  pub long : length counts ≡ many
  pub roomy : Roomy m counts
  pub each : (t : ℕ) → t < length counts → Counting (uses t) m.shapes done (get_or counts t 0)

-- All are counted.
pub record Users (m : Model) (counts : List ℕ) : Type 0 where
  pub roomy : Roomy m counts
  pub each : (t : ℕ) → t < length counts → get_or counts t 0 ≡ users m t

-- ## Shapes in range

module _ {ws : List ℕ} (f : Formed ws) (ranged : in_range (parse ws) ≡ true) where
  pub shape_sited : (counts : List ℕ) (k : ℕ) {s : Shape} → Roomy (parse ws) counts
      → s ≡ shape_at (parse ws) (k + 1) → Sited counts s
  shape_sited counts k roomy read in_use =
      let low = (shape-ranges (parse ws) ranged (k + 1) (rw (← read) in_use)).table in
      rw read (omega arith)

  module _ {n many done : ℕ} {counts : List ℕ} {s : Shape} (c : CountingUsers (parse ws) many done counts)
      (all : n ≡ length (parse ws).shapes) (l : done < n) (read : s ≡ shape_at (parse ws) (done + 1))
    where
      pub shape_countable : Countable counts s
      shape_countable =
          record {
            sited = shape_sited counts done c.roomy read;
            small = λ in_use.
                let few = f.limited.shapes in
                let its = c.each s.table (shape_sited counts done c.roomy read in_use) in
                let counted = its.few in
                omega arith;
          }

      pub users-next : {after : List ℕ} → after ≡ with_user counts s
          → CountingUsers (parse ws) many (done + 1) after
      users-next {after} e =
          let same : length after ≡ length counts = ap length e ∙ length_user counts s in
          let roomy = c.roomy in
          record {
            long = same ∙ c.long;
            roomy = omega arith;
            each = λ t h.
                rw (e, count_user counts s t (shape_sited counts done c.roomy read))
                (count_next (uses t) (c.each t (rw same at h)) no_shape (omega arith)
                (ap (uses t) (read ∙ shape-next (parse ws) done)) refl);
          }

-- ## Each table in use

pub table-at : (m : Model) (k : ℕ) {b : Bool} → b ≡ table_used m (k + 1, table_at m (k + 1))
    → b ≡ table_used m (k + 1, get_or m.tables k free)
table-at m k e = e ∙ ap (λ (x : Table). table_used m (k + 1, x)) (table-next m k)

-- ## Each unique shape

abbrev pub alone_in : (counts : List ℕ) → Shape → Bool
alone_in counts s = not (unique s) || eqb (get_or counts s.table 0) 1

pub alone_at : {m : Model} {counts : List ℕ} (k : ℕ) {s : Shape} {b : Bool} → Users m counts → Sited counts s
    → s ≡ shape_at m (k + 1) → b ≡ alone_in counts s
    → b ≡ unique_alone m (k + 1, get_or m.shapes k no_shape)
alone_at {m} {counts} k {s} u sited read e =
    e ∙ go (free_shape s) refl ∙ ap (λ (x : Shape). unique_alone m (k + 1, x)) (read ∙ shape-next m k)
  where
    go : (b : Bool) → free_shape s ≡ b
        → alone_in counts s ≡ (b || (not (unique s) || eqb (users m s.table) 1))
    go true f = rw (eqb-true s.state 0 f)
    go false f = rw (u.each s.table (sited f))

-- ## Places in turn

-- A test of each place is the test of each record with its place.
pub every_numbered : {A : Type 0} (d : A) (test : ℕ × A → Bool) (xs : List A) {probe : ℕ → Bool} {n : ℕ}
    → n ≡ length xs → ((k : ℕ) → k < n → probe k ≡ test (k + 1, get_or xs k d))
    → list_all probe (range_with_len 0 n) ≡ every test (numbered 1 xs)
every_numbered {A} d test xs {probe} e h =
    rw e
    (from 0 xs (λ k l. let zero_first : 0 + k ≡ k = omega arith in
    let next : suc (0 + k) ≡ k + 1 = omega arith in
    rw (next, zero_first) (h k (rw e l))))
  where
    from : (a : ℕ) (ys : List A) → ((k : ℕ) → k < length ys → probe (a + k) ≡ test (suc (a + k), get_or ys k d))
        → list_all probe (range_with_len a (length ys)) ≡ every test (numbered (suc a) ys)
    from a [] here = refl
    from a (y ∷ ys) here =
        let first = here 0 (omega arith) in
        ap₂ ◌&&◌ (rw (add-zero a) at first)
        (rw (add-one a)
        (from (suc a) ys (λ k l.
        let next : suc a + k ≡ a + suc k = omega arith in
        rw next (here (suc k) (omega arith)))))

-- ## Both

module _ (m : Model) where
  pub unused-table : {b : Bool} → b ≡ every_table_used m → b ≡ false → false ≡ tables_used m
  unfolding tables_used
  unused-table e f = rw (← e, f)

  pub uniques_decide : {b c : Bool} → b ≡ every_table_used m → b ≡ true → c ≡ every_unique_alone m
      → c ≡ tables_used m
  unfolding tables_used
  uniques_decide e f g = rw (← e, f) g
