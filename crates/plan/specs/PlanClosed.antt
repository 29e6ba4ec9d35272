-- The count of inserts has a form without a loop.
-- Assumes nothing.
use Rattle.std.specs.Prelude.{Bool, true, false, ◌&&◌, List, [], ◌∷◌, ◌≡◌, refl, ℕ, zero, suc, ◌-◌, eqb, ltb, leb, length}
use Rattle.std.proofs.lemmas.Bool.{false≢true}
use Rattle.std.proofs.Math.Bool.{and-false}
use Rattle.std.proofs.Common.{sym, ◌∙◌, arith}
use Rattle.std.proofs.Math.Dec.{leb-zero, leb-suc-zero, leb-suc-suc, eqb-suc-zero}
use Rattle.store.specs.Lists.{every}
use Rattle.rules.specs.declared.Refusal.TheVariants.{KeysFull, ShapesFull, TablesFull, EdgesFull}
use Rattle.rules.specs.Refusals.{Got, ok, ◌>>=◌, ◌>>◌, refuse}
use Rattle.rules.specs.Steps.{Step, insert, configure, prototype, added}
use Rattle.plan.specs.declared.Room.{Room}
use Rattle.plan.specs.Plan.{spend, spend_all, appending, inserting}

abbrev room : (keys shapes tables edges : ℕ) (whole : Bool) → Room
room a s t e w = record { keys = a; shapes = s; tables = t; edges = e; whole = w }

abbrev pub is_insert : Step → Bool
is_insert t = eqb (added t) 1

-- ## Each appends

zero-below : (n : ℕ) → ltb 0 (suc n) ≡ true
zero-below n = leb-suc-suc 0 n ∙ leb-zero n

-- One insert less, and one less of each.
appending-next : (n a s t e : ℕ)
    → appending (suc n) (room (suc a) (suc s) t (suc e) true) ≡ appending n (room a s t e true)
unfolding appending
appending-next n a s t e =
    let keys : suc a - suc n ≡ a - n = omega arith in
    let shapes : suc s - suc n ≡ s - n = omega arith in
    let edges : suc e - suc n ≡ e - n = omega arith in
    rw (
      leb-suc-suc (suc a) n,
      leb-suc-suc (suc s) n,
      leb-suc-suc (suc e) n,
      leb-suc-suc a s,
      leb-suc-suc a e,
      leb-suc-suc s e,
      keys,
      shapes,
      edges,
    )

appending-none : (a s t e : ℕ) (w : Bool) → ok (room a s t e w) ≡ appending 0 (room a s t e w)
unfolding appending
appending-none a s t e w =
    let keys : a - 0 ≡ a = omega arith in
    let shapes : s - 0 ≡ s = omega arith in
    let edges : e - 0 ≡ e = omega arith in
    rw (leb-suc-zero a, leb-suc-zero s, leb-suc-zero e, keys, shapes, edges)

appending_right : (ts : List Step) → every is_insert ts ≡ true → (a s t e : ℕ)
    → spend_all ts (room a s t e true) ≡ appending (length ts) (room a s t e true)
unfolding spend appending
appending_right [] h a s t e = appending-none a s t e true
appending_right (insert k x ∷ ts) h zero s t e = rw (zero-below (length ts), leb-zero s, leb-zero e)
appending_right (insert k x ∷ ts) h (suc a) zero t e =
    rw (
      eqb-suc-zero a,
      leb-suc-zero a,
      and-false (ltb (suc a) (suc (length ts))),
      zero-below (length ts),
      leb-zero e,
    )
appending_right (insert k x ∷ ts) h (suc a) (suc s) t zero =
    rw (
      eqb-suc-zero a,
      eqb-suc-zero s,
      leb-suc-zero a,
      and-false (ltb (suc a) (suc (length ts)) && leb (suc a) (suc s)),
      leb-suc-zero s,
      and-false (ltb (suc s) (suc (length ts))),
      zero-below (length ts),
    )
appending_right (insert k x ∷ ts) h (suc a) (suc s) t (suc e) =
    let keys : suc a - 1 ≡ a = omega arith in
    let shapes : suc s - 1 ≡ s = omega arith in
    let edges : suc e - 1 ≡ e = omega arith in
    rw (eqb-suc-zero a, eqb-suc-zero s, eqb-suc-zero e, keys, shapes, edges)
    (appending_right ts h a s t e ∙ sym (appending-next (length ts) a s t e))
appending_right (configure k x ∷ ts) h a s t e = absurd (false≢true h)
appending_right (prototype p ∷ ts) h a s t e = absurd (false≢true h)

-- ## The first copies

copying : (k x : ℕ) (ts : List Step) (a s t e : ℕ)
    → spend_all (insert k x ∷ ts) (room a s t e false)
    ≡ (refuse KeysFull (eqb a 0)
    >> (refuse ShapesFull (eqb s 0)
    >> (refuse TablesFull (eqb t 0) >> spend_all (insert k x ∷ ts) (room a s (t - 1) e true))))
unfolding spend
copying k x ts a s t e = go (eqb a 0) (eqb s 0) (eqb t 0)
  where
    edge : Got Room
    edge = refuse EdgesFull (eqb e 0) >> ok (room (a - 1) (s - 1) (t - 1) (e - 1) true)

    go : (b c d : Bool)
        → ((refuse KeysFull b >> (refuse ShapesFull c >> (refuse TablesFull d >> edge))) >>= spend_all ts)
        ≡ (refuse KeysFull b
        >> (refuse ShapesFull c
        >> (refuse TablesFull d >> ((refuse KeysFull b >> (refuse ShapesFull c >> edge)) >>= spend_all ts))))
    go true c d = refl
    go false true d = refl
    go false false true = refl
    go false false false = refl

inserting-room : (ts : List Step) → every is_insert ts ≡ true → (a s t e : ℕ) (w : Bool)
    → spend_all ts (room a s t e w) ≡ inserting (length ts) (room a s t e w)
unfolding inserting
inserting-room ts h a s t e true = appending_right ts h a s t e
inserting-room [] h a s t e false = appending-none a s t e false
inserting-room (insert k x ∷ ts) h a s t e false =
    copying k x ts a s t e
    ∙ rw (eqb-suc-zero (length ts), appending_right (insert k x ∷ ts) h a s (t - 1) e)
inserting-room (configure k x ∷ ts) h a s t e false = absurd (false≢true h)
inserting-room (prototype p ∷ ts) h a s t e false = absurd (false≢true h)

pub inserting_right : (ts : List Step) → every is_insert ts ≡ true → (r : Room)
    → spend_all ts r ≡ inserting (length ts) r
inserting_right ts h r = inserting-room ts h r.keys r.shapes r.tables r.edges r.whole
