-- One record of an area, read and replaced where it lies. One law serves every kind of record.
-- Assumes nothing.
use Rattle.std.specs.Prelude.{◌≡◌, Bool, true, length, get_or, set, take, replicate}
use Rattle.std.proofs.Common.{ap, ◌∙◌, zero-add, mul-zero, not-suc-le-zero, le_of_suc-le-suc, add-one, arith, take_at, take-suc-set}
use mathlib.Core.List.{List, [], ◌∷◌, ◌++◌, map, append_assoc, append-nil}
use Prim.Native.Nat.{ℕ, zero, suc, ◌+◌, ◌-◌, ◌*◌, ◌≤◌, ◌<◌}
use borrow.Rule.Slice.PartMut.{mid_of, put_mid}
use Rattle.std.proofs.lemmas.List.{replicate-append-replicate}
use Rattle.std.proofs.Math.Seq.{drop_at, drop-length, take-append-add, drop-append-add}
use Rattle.std.proofs.lemmas.List.Edits.{sets, sets-eq}
use Rattle.store.specs.Lists.{at, put, every}
use Rattle.store.specs.ListLaws.{and_both}
use Rattle.store.specs.Layout.{flat}
use Rattle.store.specs.Rows.{Written, mul-suc-left}

-- Where the record at a place starts, in an area from o on whose records have w words each.
abbrev pub spot : (o w place : ℕ) → ℕ
spot o w n = o + w * (n - 1)

-- The part that code lends from a to b.
pub part_lent : (ws : List ℕ) (w : ℕ) {a b at : ℕ} → a ≡ at → b ≡ a + w → mid_of a (b - a) ws ≡ mid_of at w ws
part_lent ws w {a} {b} e ends = let many : b - a ≡ w = omega arith in rw (many, e)

-- Past what stands before it, a part is the same.
pub mid_past : (front ws : List ℕ) (n o w : ℕ) → length front ≡ n
    → mid_of (n + o) w (front ++ ws) ≡ mid_of o w ws
mid_past front ws n o w e = rw (← e, drop-append-add)

pub put_past : (front ws new : List ℕ) (n o w : ℕ) → length front ≡ n
    → put_mid (n + o) w (front ++ ws) new ≡ front ++ put_mid o w ws new
put_past front ws new n o w e = rw (← e, take-append-add, drop-append-add, append_assoc)

module _
    {A : Type 0}
    {w : ℕ}
    {lay : A → List ℕ}
    {read : List ℕ → A}
    {good : A → Bool}
    {tidy : List ℕ → Bool}
    (kind : Written w lay read good tidy)
  where
    read_at : (xs : List A) (rest : List ℕ) (k : ℕ) (d : A) → every good xs ≡ true → k < length xs
        → mid_of (w * k) w (flat (map lay xs) ++ rest) ≡ lay (get_or xs k d)
    unfolding flat
    read_at [] rest k d e h = absurd (not-suc-le-zero h)
    read_at (x ∷ xs) rest zero d e h =
        rw (mul-zero, append_assoc) (take_at (lay x) _ w (kind.width x (and_both (good x) e).0))
    read_at (x ∷ xs) rest (suc k) d e h =
        let p = and_both (good x) e in
        rw (mul-suc-left, append_assoc, mid_past (lay x) _ w (w * k) w (kind.width x p.0))
        (read_at xs rest k d p.1 (le_of_suc-le-suc h))

    write_at : (xs : List A) (rest : List ℕ) (k : ℕ) (y : A) → every good xs ≡ true → k < length xs
        → put_mid (w * k) w (flat (map lay xs) ++ rest) (lay y) ≡ flat (map lay (set xs k y)) ++ rest
    unfolding flat
    write_at [] rest k y e h = absurd (not-suc-le-zero h)
    write_at (x ∷ xs) rest zero y e h =
        let p = and_both (good x) e in
        let after = drop_at (lay x) (flat (map lay xs) ++ rest) w (kind.width x p.0) in
        rw (mul-zero, append_assoc, append_assoc, after)
    write_at (x ∷ xs) rest (suc k) y e h =
        let p = and_both (good x) e in
        rw (
          mul-suc-left,
          append_assoc,
          put_past (lay x) _ (lay y) w (w * k) w (kind.width x p.0),
          write_at xs rest k y p.1 (le_of_suc-le-suc h),
          append_assoc,
        )

    -- The record at a place of an area that has something before it and after it.
    pub area_read : (front : List ℕ) (xs : List A) (rest : List ℕ) (o n : ℕ) (d : A)
        → length front ≡ o → every good xs ≡ true → 1 ≤ n → n ≤ length xs
        → mid_of (spot o w n) w (front ++ (flat (map lay xs) ++ rest)) ≡ lay (at xs n d)
    area_read front xs rest o zero d f e low high = absurd (not-suc-le-zero low)
    area_read front xs rest o (suc k) d f e low high =
        let one : suc k - 1 ≡ k = omega arith in
        rw (one, mid_past front _ o (w * k) w f) (read_at xs rest k d e high)

    -- Another record in its place.
    pub area_write : (front : List ℕ) (xs : List A) (rest : List ℕ) (o n : ℕ) (y : A)
        → length front ≡ o → every good xs ≡ true → 1 ≤ n → n ≤ length xs
        → put_mid (spot o w n) w (front ++ (flat (map lay xs) ++ rest)) (lay y)
        ≡ front ++ (flat (map lay (put xs n y)) ++ rest)
    area_write front xs rest o zero y f e low high = absurd (not-suc-le-zero low)
    area_write front xs rest o (suc k) y f e low high =
        let one : suc k - 1 ≡ k = omega arith in
        rw (one, put_past front _ (lay y) o (w * k) w f, write_at xs rest k y e high)

-- Each word of a record stored, one by one.
pub all-stored : (new ws : List ℕ) → length ws ≡ length new → sets ws 0 new ≡ new
all-stored new ws e = sets-eq new ws 0 (omega arith) ∙ rw (zero-add, ← e, drop-length) (append-nil new)

-- One word more is zero.
pub clear_one : (ws : List ℕ) (i : ℕ) → i < length ws → take i ws ≡ replicate i 0
    → take (i + 1) (set ws i 0) ≡ replicate (i + 1) 0
clear_one ws i h e =
    rw (add-one, take-suc-set ws i 0 h, e)
    (replicate-append-replicate i 1 0 ∙ ap (λ (n : ℕ). replicate n 0) (add-one i))
