-- An area: records of one kind, of w words each, laid out one after the other and read again.
-- The laws are stated once, over the kind and its width.
-- Assumes nothing.
use Rattle.std.specs.Prelude.{◌≡◌, Bool, true, leb, length, take, drop, replicate}
use Rattle.std.proofs.Math.Path.{refl}
use Rattle.std.proofs.Common.{ap, ap₂, ◌∙◌, mul-suc, add_comm, arith, le-leb, length-append, take-append-drop, take_at, drop_at, length-take-le}
use mathlib.Core.List.{List, [], ◌∷◌, ◌++◌, map, append_assoc}
use Prim.Native.Nat.{ℕ, zero, suc, ◌+◌, ◌*◌, ◌≤◌}
use Rattle.std.proofs.Math.Nat.{mul-zero}
use Rattle.std.proofs.Math.ListN.{length-drop}
use Rattle.std.proofs.lemmas.List.{replicate-append-replicate}
use Rattle.std.proofs.Math.Seq.{drop-drop}
use Rattle.store.specs.Lists.{every}
use Rattle.store.specs.ListLaws.{and_both, map_back}
use Rattle.store.specs.Layout.{rows, flat}

pub mul-suc-left : (w n : ℕ) → w * suc n ≡ w + w * n
mul-suc-left w n = mul-suc w n ∙ add_comm (w * n) w

pub length-rows : (w n : ℕ) (ws : List ℕ) → length (rows w n ws) ≡ n
unfolding rows
length-rows w zero ws = refl
length-rows w (suc n) ws = ap suc (length-rows w n (drop w ws))

-- What is to be known of one kind of record: a good one is laid out in w words; a record's words are read
-- as that record; w tidy words are those of the record that they are read as.
pub record Written
    {A : Type 0}
    (w : ℕ)
    (lay : A → List ℕ)
    (read : List ℕ → A)
    (good : A → Bool)
    (tidy : List ℕ → Bool)
    : Type 0 where
  pub width : (x : A) → good x ≡ true → length (lay x) ≡ w
  pub back : (x : A) → read (lay x) ≡ x
  pub there : (r : List ℕ) → length r ≡ w → tidy r ≡ true → lay (read r) ≡ r

module _
    {A : Type 0}
    {w : ℕ}
    {lay : A → List ℕ}
    {read : List ℕ → A}
    {good : A → Bool}
    {tidy : List ℕ → Bool}
    (kind : Written w lay read good tidy)
  where
    pub area_length : (xs : List A) → every good xs ≡ true → length (flat (map lay xs)) ≡ w * length xs
    unfolding flat
    area_length [] e = rw mul-zero
    area_length (x ∷ xs) e =
        let p = and_both (good x) e in
        rw (length-append, kind.width x p.0, area_length xs p.1, mul-suc-left)

    -- What follows an area.
    pub area_rest : (xs : List A) (rest : List ℕ) → every good xs ≡ true
        → drop (w * length xs) (flat (map lay xs) ++ rest) ≡ rest
    area_rest xs rest e = drop_at (flat (map lay xs)) rest (w * length xs) (area_length xs e)

    -- An area's rows are the words of its records.
    pub area_rows : (xs : List A) (rest : List ℕ) → every good xs ≡ true
        → rows w (length xs) (flat (map lay xs) ++ rest) ≡ map lay xs
    unfolding rows flat
    area_rows [] rest e = refl
    area_rows (x ∷ xs) rest e =
        let p = and_both (good x) e in
        let n = kind.width x p.0 in
        let ws = flat (map lay xs) ++ rest in
        rw append_assoc
        (ap₂ ◌∷◌ (take_at (lay x) ws w n) (rw (drop_at (lay x) ws w n) (area_rows xs rest p.1)))

    -- An area laid out and read again is itself.
    pub area_back : (xs : List A) (rest : List ℕ) → every good xs ≡ true
        → map read (rows w (length xs) (flat (map lay xs) ++ rest)) ≡ xs
    area_back xs rest e = rw (area_rows xs rest e) (map_back lay read kind.back xs)

    -- An area read and laid out again is its words.
    pub area_there : (n : ℕ) (ws : List ℕ) → w * n ≤ length ws → every tidy (rows w n ws) ≡ true
        → flat (map lay (map read (rows w n ws))) ++ drop (w * n) ws ≡ ws
    unfolding rows flat
    area_there zero ws h e = rw mul-zero
    area_there (suc n) ws h e =
        let p = and_both (tidy (take w ws)) e in
        let m = mul-suc-left w n in
        let row = kind.there (take w ws) (length-take-le w ws (omega arith)) p.0 in
        let after = area_there n (drop w ws) (rw length-drop (omega arith)) p.1 in
        rw (row, m, ← drop-drop, append_assoc, after) (take-append-drop w ws)

    -- The same where the area starts at o.
    pub area_there_at : (o n : ℕ) (ws : List ℕ) → o + w * n ≤ length ws
        → every tidy (rows w n (drop o ws)) ≡ true
        → flat (map lay (map read (rows w n (drop o ws)))) ++ drop (o + w * n) ws ≡ drop o ws
    area_there_at o n ws h e = rw (← drop-drop) (area_there n (drop o ws) (rw length-drop (omega arith)) e)

-- ## Areas by their length

module _ {A : Type 0} (w : ℕ) (lay : A → List ℕ) (least : (x : A) → w ≤ length (lay x)) where
  long_area : (xs : List A) → w * length xs ≤ length (flat (map lay xs))
  unfolding flat
  long_area [] = rw mul-zero (omega arith)
  long_area (x ∷ xs) =
      let h = least x in
      let t = long_area xs in
      rw (mul-suc-left, length-append) (omega arith)

  -- If each record has at least w words, and all have no more than w each together, then none has more.
  pub exact_area : (xs : List A) → length (flat (map lay xs)) ≤ w * length xs
      → every (λ x. leb (length (lay x)) w) xs ≡ true
  unfolding flat
  exact_area [] h = refl
  exact_area (x ∷ xs) h =
      let k = rw (length-append, mul-suc-left) at h in
      let a = least x in
      let t = long_area xs in
      rw (le-leb (length (lay x)) w (omega arith)) (exact_area xs (omega arith))

-- ## Areas of zeros

pub zero_area : {A : Type 0} (w n : ℕ) (lay : A → List ℕ) (x : A) → lay x ≡ replicate w 0
    → flat (map lay (replicate n x)) ≡ replicate (w * n) 0
unfolding flat
zero_area w zero lay x e = rw mul-zero
zero_area w (suc n) lay x e =
    rw (e, zero_area w n lay x e, mul-suc-left) (replicate-append-replicate w (w * n) 0)
