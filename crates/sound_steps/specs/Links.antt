-- What the marks of the edges by child say.
-- Assumes nothing.
use Rattle.std.specs.Prelude.{◌≡◌, refl, Bool, false, ◌||◌, ◌⊎◌, ◌≢◌, ℕ, ◌+◌, ◌≤◌, ◌<◌, eqb, length, get_or, set, take}
use Rattle.std.proofs.Common.{sym, ap, ◌∙◌, inl, inr, add-one, arith, ne_eqb, eq-eqb, length-set, take-suc, take_all, get_or-set_same, get_or-set_other}
use mathlib.Core.List.{List, [], ◌∷◌, ◌++◌, append-nil}
use Rattle.std.specs.Prelude.{if◌then◌else◌}
use Rattle.store.specs.Lists.{at, keep}
use Rattle.store.specs.ListLaws.{keep_append, not-both}
use Rattle.store.specs.PlaceLaws.{same?}
use Rattle.store.specs.Model.{Model, no_edge, edge_at}
use Rattle.store.specs.Image.{Place}
use Rattle.store.specs.declared.Edge.{Edge}
use Rattle.rules.specs.Sound.{edges_to}

-- ## The marks

abbrev pub leads_to : ℕ → Edge → Bool
leads_to n e = eqb e.child n

-- Of the edges to a child the mark names the one, by its place among all, or says that there are none
-- or several.
pub data Marked (all kept : List Edge) (mark : ℕ) : Type 0 where
  none : mark ≡ 0 → kept ≡ [] → Marked all kept mark
  one : Place (length all) mark → kept ≡ at all mark no_edge ∷ [] → Marked all kept mark
  several : mark ≡ 65536 → (x y : Edge) (more : List Edge) → kept ≡ x ∷ y ∷ more → Marked all kept mark

-- Each shape's mark.
pub record Marks (m : Model) (marks : List ℕ) : Type 0 where
  pub room : length m.shapes < length marks
  pub each : (n : ℕ) → Place (length m.shapes) n → Marked m.edges (edges_to m n) (get_or marks n 0)

-- Each word's mark, with so many edges done.
pub record Marking (m : Model) (done : ℕ) (marks : List ℕ) : Type 0 where
  pub room : length m.shapes < length marks
  pub within : done ≤ length m.edges
  pub each : (n : ℕ) → 1 ≤ n → n < length marks
      → Marked m.edges (keep (leads_to n) (take done m.edges)) (get_or marks n 0)

-- One more edge to the child.
one_more : {all kept : List Edge} {mark : ℕ} (place : ℕ) → Place (length all) place → Marked all kept mark
    → Marked all (kept ++ at all place no_edge ∷ []) (if eqb mark 0 then place else 65536)
one_more place p (none z e) = rw (z, e) (one p refl)
one_more {mark = mark} place p (one q e) =
    rw (ne_eqb mark 0 (λ z. omega (arith, q.low)), e) (several refl _ _ [] refl)
one_more place p (several z x y more e) = rw (z, e) (several refl x y (more ++ _ ∷ []) refl)

-- The marks with one more edge to the child.
abbrev pub with_edge : (marks : List ℕ) (child place : ℕ) → List ℕ
with_edge marks child place = set marks child (if eqb (get_or marks child 0) 0 then place else 65536)

module _ {m : Model} {done : ℕ} {marks : List ℕ} (k : Marking m done marks) where
  pub mark_next : {edge : Edge} {after : List ℕ} → done < length m.edges → edge ≡ edge_at m (done + 1)
      → after ≡ with_edge marks edge.child (done + 1)
      → Marking m (done + 1) after × (length after ≡ length marks)
  unfolding edge_at
  mark_next {edge} {after} l its new = (
    record {
      room = rw long k.room;
      within = omega arith;
      each = λ n low high. rw (kept n, new) (noted n low (rw long at high) (same? edge.child n));
    },
    long,
  )
    where
      all : List Edge
      all = m.edges

      long : length after ≡ length marks
      long = rw (new, length-set)

      kept : (n : ℕ) → keep (leads_to n) (take (done + 1) all)
          ≡ keep (leads_to n) (take done all) ++ keep (leads_to n) (edge ∷ [])
      kept n =
          let last : edge ≡ get_or all done no_edge = its ∙ ap (λ (k : ℕ). at all k no_edge) (add-one done) in
          rw (add-one done, take-suc all done no_edge l, last) (keep_append (leads_to n) (take done all) _)

      noted : (n : ℕ) → 1 ≤ n → n < length marks → (edge.child ≡ n) ⊎ (edge.child ≢ n)
          → Marked all (keep (leads_to n) (take done all) ++ keep (leads_to n) (edge ∷ []))
          (get_or (with_edge marks edge.child (done + 1)) n 0)
      noted n low high (inl e) =
          let mark = if eqb (get_or marks n 0) 0 then done + 1 else 65536 in
          let stored : get_or (with_edge marks edge.child (done + 1)) n 0 ≡ mark
          = rw e (get_or-set_same marks n mark 0 high) in
          rw (eq-eqb edge.child n e, stored, its)
          (one_more (done + 1) (record { low = omega arith; high = omega arith }) (k.each n low high))
      noted n low high (inr e) =
          rw (ne_eqb edge.child n e, append-nil, get_or-set_other marks edge.child n _ 0 (λ q. e (sym q)))
          (k.each n low high)

  -- With all edges done.
  pub all-marked : length m.edges ≤ done → Marks m marks
  all-marked l =
      record {
        room = k.room;
        each = λ n p. rw (take_all done m.edges l) at (k.each n p.low (omega (arith, p.high, k.room)));
      }

-- ## The one edge

-- The mark names no place.
abbrev pub no_place : ℕ → Bool
no_place mark = eqb mark 0 || eqb mark 65536

pub the_one : {all kept : List Edge} {mark : ℕ} → Marked all kept mark → no_place mark ≡ false
    → Place (length all) mark × (kept ≡ at all mark no_edge ∷ [])
the_one (none z e) h = not-both (rw z) h
the_one (one p e) h = (p, e)
the_one (several z x y more e) h = not-both (rw z) h
