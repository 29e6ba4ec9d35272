-- Keys of one kind, counted and written one after the other.
-- Assumes nothing.
use Rattle.std.specs.Int.{from_bool}
use Rattle.std.specs.Prelude.{Bool, true, false, if◌then◌else◌}
use Rattle.std.specs.Prelude.{List, [], ◌∷◌, ◌++◌, ◌≢◌, ◌≡◌, refl, ℕ, ◌+◌, ◌≤◌, ◌<◌, eqb, length, get_or, set, take, drop}
use Rattle.std.proofs.lemmas.List.{map-append, length-map, set_split}
use Rattle.std.proofs.Common.{append_assoc, sym, ◌∙◌, ap, ap₂, add-zero, zero-add, add-one, arith, eq-eqb, ne_eqb, length-append, length-drop, take-append-drop, take-suc, take_at, drop_at, drop-drop, length-take-le, take-take}
use Rattle.store.specs.Model.{no_entry}
use Rattle.store.specs.ListLaws.{keep_append, length-keep}
use Rattle.store.specs.declared.Entry.{Entry}
use Rattle.rules.specs.Numbers.{kind_of}
use Rattle.rules.specs.Sweep.{keys_of_kind}
use Rattle.theorems.specs.Entries.{keys}

-- "strings in order, then symbols in order": one of the two.
abbrev pub listed : (kind : ℕ) → List Entry → List ℕ
listed kind es = keys_of_kind kind (keys es)

-- A key alone, listed if it is of the kind.
abbrev pub one_listed : (kind key : ℕ) → List ℕ
one_listed kind key = keys_of_kind kind (key ∷ [])

-- ## One entry more

listed-append : (kind : ℕ) (xs ys : List Entry) → listed kind (xs ++ ys) ≡ listed kind xs ++ listed kind ys
listed-append kind xs ys =
    ap (keys_of_kind kind) (map-append (λ (e : Entry). e.key) xs ys) ∙ keep_append _ (keys xs) (keys ys)

listed_more : (kind : ℕ) (es : List Entry) (i : ℕ) → i < length es
    → listed kind (take (i + 1) es) ≡ listed kind (take i es) ++ one_listed kind (get_or es i no_entry).key
listed_more kind es i h = rw (add-one, take-suc es i no_entry h) (listed-append kind (take i es) _)

-- The keys of fewer entries are fewer.
listed_fewer : (kind : ℕ) (es : List Entry) (i : ℕ)
    → length (listed kind (take i es)) ≤ length (listed kind es)
listed_fewer kind es i =
    let parts = ap (listed kind) (take-append-drop i es) in
    let both = listed-append kind (take i es) (drop i es) in
    let sum = length-append (listed kind (take i es)) (listed kind (drop i es)) in
    let same = ap length (sym both ∙ parts) in
    omega arith

listed-few : (kind : ℕ) (es : List Entry) → length (listed kind es) ≤ length es
listed-few kind es =
    let kept = length-keep (λ (k : ℕ). eqb (kind_of k) kind) (keys es) in
    let all = length-map es (λ (e : Entry). e.key) in
    omega arith

pub listed_below : (kind : ℕ) (es : List Entry) (n : ℕ) → length (listed kind (take n es)) ≤ length es
listed_below kind es n =
    let fewer = listed_fewer kind es n in
    let few = listed-few kind es in
    omega arith

-- ## Words written from a place on

abbrev pub written : List ℕ → (at : ℕ) → List ℕ → List ℕ
written out at ks = take at out ++ (ks ++ drop (at + length ks) out)

written_none : (out : List ℕ) (at : ℕ) → written out at [] ≡ out
written_none out at = rw add-zero (take-append-drop at out)

written_one : (out : List ℕ) (at k : ℕ) → at < length out → set out at k ≡ written out at (k ∷ [])
written_one out at k h = rw add-one (set_split out at k h)

written_on : (out : List ℕ) (at : ℕ) (xs ys : List ℕ) → at + length xs ≤ length out
    → written (written out at xs) (at + length xs) ys ≡ written out at (xs ++ ys)
written_on out at xs ys h =
    let n = at + length xs in
    let front = take at out ++ xs in
    let long : length front ≡ n = rw (length-append, length-take-le at out (omega arith)) in
    let whole : written out at xs ≡ front ++ drop n out = sym (append_assoc (take at out) xs (drop n out)) in
    let first = ap (take n) whole ∙ take_at front (drop n out) n long in
    let past = ap (drop n) whole ∙ drop_at front (drop n out) n long in
    let sum : n + length ys ≡ at + length (xs ++ ys) = rw length-append (omega arith) in
    let rest = sym (drop-drop (length ys) n (written out at xs)) ∙ ap (drop (length ys)) past
    ∙ drop-drop (length ys) n out ∙ ap (λ (k : ℕ). drop k out) sum in
    ap₂ (λ (us vs : List ℕ). us ++ (ys ++ vs)) first rest
    ∙ rw (append_assoc (take at out), append_assoc xs)

length-written : (out : List ℕ) (at : ℕ) (xs : List ℕ) → at + length xs ≤ length out
    → length (written out at xs) ≡ length out
length-written out at xs h =
    rw (length-append, length-append, length-take-le at out (omega arith), length-drop) (omega arith)

-- ## A loop that lists the keys of a kind among the first n, at position i

-- A key is of the kind, or not.
pub of_kind : (kind key : ℕ) → kind_of key ≡ kind → one_listed kind key ≡ key ∷ []
of_kind kind key e = rw (eq-eqb (kind_of key) kind e)

pub not_of_kind : (kind key : ℕ) → kind_of key ≢ kind → one_listed kind key ≡ []
not_of_kind kind key e = rw (ne_eqb (kind_of key) kind e)

-- One key written, or none.
module _ (kind key : ℕ) (out : List ℕ) (at : ℕ) where
  pub key_written : kind_of key ≡ kind → at < length out
      → (at + 1 ≡ at + length (one_listed kind key)) × (set out at key ≡ written out at (one_listed kind key))
  key_written e h = rw (of_kind kind key e) (refl, written_one out at key h)

-- How many keys of the kind one key is.
counted-one : (kind key : ℕ) → from_bool (eqb (kind_of key) kind) ≡ length (one_listed kind key)
counted-one kind key = go (eqb (kind_of key) kind)
  where
    go : (b : Bool) → from_bool b ≡ length (if b then key ∷ [] else [])
    go true = refl
    go false = refl

pub counted-more : (kind i : ℕ) (es : List Entry) {n : ℕ} {e : Entry} {one : ℕ} → i < length es
    → n ≡ length (listed kind (take i es)) → e ≡ get_or es i no_entry → one ≡ from_bool (eqb (kind_of e.key) kind)
    → n + one ≡ length (listed kind (take (i + 1) es))
counted-more kind i es h sum its one =
    sym
    (ap length (listed_more kind es i h) ∙ length-append (listed kind (take i es)) _
    ∙ rw (sum, one, its, counted-one))

pub record Listing (kind n : ℕ) (es : List Entry) (before : List ℕ) (at i end : ℕ) (out : List ℕ)
    : Type 0 where
  pub within : i ≤ n
  pub ends : end ≡ at + length (listed kind (take i es))
  pub so_far : out ≡ written before at (listed kind (take i es))

module _ {kind n : ℕ} {es : List Entry} {before : List ℕ} {at : ℕ} where
  module _ {i end : ℕ} {out : List ℕ} (l : Listing kind n es before at i end out) (inside : n ≤ length es)
      (room : at + length (listed kind (take n es)) ≤ length before) where
    listed-room : (j : ℕ) → j ≤ n → at + length (listed kind (take j es)) ≤ length before
    listed-room j h =
        let fewer = rw (take-take j n es h) at (listed_fewer kind (take n es) j) in
        omega arith

    pub list_length : length out ≡ length before
    list_length =
        let room_so_far = listed-room i l.within in
        rw l.so_far (length-written before at (listed kind (take i es)) room_so_far)

    module _ {e : Entry} (more : i < n) (its : e ≡ get_or es i no_entry) where
      next-listed : listed kind (take (i + 1) es) ≡ listed kind (take i es) ++ one_listed kind e.key
      next-listed = listed_more kind es i (omega arith) ∙ rw its

      pub list_room : end + length (one_listed kind e.key) ≤ length out
      list_room =
          let fits = listed-room (i + 1) (omega arith) in
          let sum = ap length next-listed ∙ length-append (listed kind (take i es)) _ in
          let long = list_length in
          let ends = l.ends in
          omega arith

      pub list_turn : {next : ℕ} {new : List ℕ} → next ≡ end + length (one_listed kind e.key)
          → new ≡ written out end (one_listed kind e.key) → Listing kind n es before at (i + 1) next new
      list_turn to wrote =
          let sum = ap length next-listed ∙ length-append (listed kind (take i es)) _ in
          let ends = l.ends in
          let one = one_listed kind e.key in
          let on = written_on before at (listed kind (take i es)) one (listed-room i l.within) in
          record {
            within = omega arith;
            ends = omega arith;
            so_far = wrote ∙ rw (next-listed, l.so_far, ends) on;
          }

-- ## Strings, then symbols

module _ (out xs ys : List ℕ) {end : ℕ} {mid : List ℕ} (room : length (xs ++ ys) ≤ length out)
    (ends : end ≡ 0 + length xs) (wrote : mid ≡ written out 0 xs) where
  first_fits : 0 + length xs ≤ length out
  first_fits = let sum = length-append xs ys in omega arith

  pub both-written : {all : ℕ} {last : List ℕ} → all ≡ end + length ys → last ≡ written mid end ys
      → (all ≡ length (xs ++ ys)) × (last ≡ (xs ++ ys) ++ drop (length (xs ++ ys)) out)
  both-written to more =
      let sum = length-append xs ys in
      let on = written_on out 0 xs ys first_fits in
      let all : written mid end ys ≡ written out 0 (xs ++ ys) = rw (wrote, ends) on in
      let front = ap (λ (k : ℕ). (xs ++ ys) ++ drop k out) (zero-add (length (xs ++ ys))) in
      (omega arith, more ∙ all ∙ front)
