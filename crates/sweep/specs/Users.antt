-- The marks of the tables that a shape uses.
-- Assumes nothing.
use Rattle.std.specs.Prelude.{false, ◌||◌, List, [], ◌∷◌, ◌≢◌, ◌≡◌, refl, ℕ, ◌+◌, ◌≤◌, ◌<◌, length, get_or, set, take}
use Rattle.std.proofs.Math.Bool.{or-false}
use Rattle.std.proofs.Common.{sym, ◌∙◌, ap, add-one, arith, ne_eqb, length-set, take-suc, take_all}
use Rattle.store.specs.Lists.{any}
use Rattle.store.specs.ListLaws.{any_append}
use Rattle.store.specs.declared.Shape.{Shape}
use Rattle.rules.specs.Sound.{uses}
use Rattle.sweep.specs.Marks.{marked, mark_says}

-- The table of one shape more is marked, where that shape is in use.
pub record AlsoMarks (s : Shape) (before after : List ℕ) : Type 0 where
  pub long : length after ≡ length before
  pub says : (t : ℕ) → t < length before → marked after t ≡ (marked before t || uses t s)

module _ {s : Shape} {users : List ℕ} where
  pub table-marked : {after : List ℕ} → s.state ≢ 0 → after ≡ set users s.table 1
      → AlsoMarks s users after
  table-marked used e =
      let its = ne_eqb s.state 0 used in
      rw e
      record {
        long = length-set users s.table 1;
        says = λ t l. mark_says users s.table t (λ q. l) ∙ rw its;
      }

  pub table-not-marked : s.state ≡ 0 → AlsoMarks s users users
  table-not-marked free =
      record { long = refl; says = λ t l. rw free (sym (or-false (marked users t))) }

-- The tables of the first shapes are marked.
pub record Users (ss : List Shape) (before users : List ℕ) (done : ℕ) : Type 0 where
  pub within : done ≤ length ss
  pub long : length users ≡ length before
  pub says : (t : ℕ) → t < length before → marked users t ≡ any (uses t) (take done ss)

pub users-none : {ss : List Shape} {users : List ℕ} → ((t : ℕ) → marked users t ≡ false)
    → Users ss users users 0
users-none clear = record { within = omega arith; long = refl; says = λ t l. clear t }

module _ {ss : List Shape} {before users : List ℕ} {i : ℕ} (u : Users ss before users i) where
  pub users-next : {after : List ℕ} {s : Shape} (d : Shape) → i < length ss → s ≡ get_or ss i d
      → AlsoMarks s users after → Users ss before after (i + 1)
  users-next {after} {s} d l e also =
      record { within = omega arith; long = also.long ∙ u.long; says = next }
    where
      next : (t : ℕ) → t < length before → marked after t ≡ any (uses t) (take (i + 1) ss)
      next t inside =
          let one : any (uses t) (s ∷ []) ≡ uses t s = or-false (uses t s) in
          also.says t (rw u.long inside)
          ∙ rw (u.says t inside, add-one, take-suc ss i d l, any_append (uses t) (take i ss), ← e, one)

  pub users-all : length ss ≤ i → (t : ℕ) → t < length before → marked users t ≡ any (uses t) ss
  users-all all t l = u.says t l ∙ ap (any (uses t)) (take_all i ss all)
