-- The forward transitions of a shape, as its edges answer for them.
-- Assumes nothing.
use Rattle.std.specs.Prelude.{◌≡◌, ℕ, suc, ◌+◌, ◌%◌, ◌<◌, ◌≤◌, Bool, true, false, ◌≢◌, List, length, ◌==◌}
use Rattle.std.proofs.Common.{inl, inr, ◌∙◌}
use Rattle.std.proofs.Math.Option.{Option, none, some}
use Rattle.std.proofs.Math.Path.{refl}
use borrow.Author.Tests.{eqb-true, eqb-false, ne_eqb}
use native.Mathlib.Omega.{arith}
use Rattle.std.proofs.lemmas.List.{length-map}
use Rattle.std.specs.Prelude.{if◌then◌else◌}
use Rattle.store.specs.Lists.{lowest}
use Rattle.store.specs.Model.{Model, no_edge, edge_at, put_edge, shape_at}
use Rattle.store.specs.Layout.{parse}
use Rattle.store.specs.Image.{Formed, Place, Becomes, unchanged, and_then}
use Rattle.store.specs.PlaceLaws.{FirstOrNone, first_or_none, lowest-first, lowest-none, put_back}
use Rattle.store.specs.PlaceLaws.{at_map}
use Rattle.store.specs.Passes.{Pass, of_edges, pass_start, pass_next}
use Rattle.store.specs.declared.Edge.{Edge}
use Rattle.rules.specs.Steps.{dead, prune, counter, put_counter, with_edges, pruned, counted}
use Rattle.forward_transition.specs.declared.Transition.{Transition}
use Rattle.forward_transition.specs.declared.Transition.TheVariants.{Live, Dead, Absent}

-- "child (0 dead)"
abbrev pub transition_of : Option Edge → Transition
transition_of none = Absent
transition_of (some e) = if e.child == 0 then Dead else Live e.child

module _ (o : Option Edge) {e : Edge} (found : some e ≡ o) where
  pub found-dead : e.child ≡ 0 → Dead ≡ transition_of o
  found-dead none_left = rw (← found, none_left)

  pub found_live : e.child ≢ 0 → Live e.child ≡ transition_of o
  found_live child = rw (← found, ne_eqb e.child 0 child)

-- ## A prune, edge by edge

-- What a prune makes of one edge.
abbrev pub unless_dead : (parent kind : ℕ) → Edge → Edge
unless_dead n kind e = if dead n kind e then no_edge else e

put-edge-back : (m : Model) (p : ℕ) → put_edge m p (edge_at m p) ≡ m
unfolding put_edge edge_at
put-edge-back m p = rw put_back

-- The edge at a place was read and tested: it is freed, or left as it is.
module _ (n kind : ℕ) (ws : List ℕ) (p : ℕ) {e : Edge} (read : e ≡ edge_at (parse ws) p)
    {b : Bool} (tested : b ≡ dead n kind e) where
  pub freed : {after : List ℕ} → b ≡ true → Becomes ws after (put_edge (parse ws) p no_edge)
      → Becomes ws after (put_edge (parse ws) p (unless_dead n kind (edge_at (parse ws) p)))
  freed is put = rw (← read, ← tested, is) put

  pub left : b ≡ false → Formed ws
      → Becomes ws ws (put_edge (parse ws) p (unless_dead n kind (edge_at (parse ws) p)))
  left other formed = rw (← read, ← tested, other, read, put-edge-back) (unchanged formed)

-- The loop: so many edges are pruned.
abbrev pub Pruning : (parent kind : ℕ) (before now : List ℕ) (done : ℕ) → Type 0
Pruning n kind before now done = Pass of_edges (prune n kind (parse before).edges) before now done

module _ (n kind : ℕ) {before : List ℕ} where
  pub prune-start : Formed before → Pruning n kind before before 0
  prune-start f = pass_start of_edges _ f (length-map (parse before).edges (unless_dead n kind))

  pub prune-next : {now after : List ℕ} {done : ℕ} → Pruning n kind before now done
      → done < length (parse before).edges
      → Becomes now after
      (put_edge (parse now) (done + 1) (unless_dead n kind (edge_at (parse now) (done + 1))))
      → Pruning n kind before after (done + 1)
  unfolding put_edge edge_at
  prune-next {done = done} c inside turn =
      pass_next of_edges c (unless_dead n kind) inside
      (at_map (unless_dead n kind) (parse before).edges (suc done) no_edge (go (dead n kind no_edge))) turn
    where
      go : (b : Bool) → (if b then no_edge else no_edge) ≡ no_edge
      go true = refl
      go false = refl

-- ## The counter

-- Dead edges are pruned where the counter is full.
abbrev pub at_limit : (old : ℕ) → Model → (place kind : ℕ) → Model
at_limit old m n kind = if old == 255 then with_edges m (prune n kind m.edges) else m

module _ (ws : List ℕ) (n kind old : ℕ) where
  -- The counter wraps from 255 to 0, or goes up by one.
  pub count-raised : {next : ℕ} {now after : List ℕ}
      → old ≡ counter kind (shape_at (parse ws) n).counters → old ≤ 255 → next ≡ (old + 1) % 256
      → Becomes ws now (at_limit old (parse ws) n kind)
      → Becomes now after (put_counter (parse now) n kind next)
      → Becomes ws after (counted (parse ws) n kind)
  unfolding counted pruned
  count-raised {next} {now} {after} read fits raised seen put =
      rw (← read) (go (old == 255) refl (and_then seen (rw seen.parsed at put)))
    where
      go : (b : Bool) → (old == 255) ≡ b
          → Becomes ws after
          (put_counter (if b then with_edges (parse ws) (prune n kind (parse ws).edges) else parse ws)
          n kind next)
          → Becomes ws after (if b then pruned (parse ws) n kind else put_counter (parse ws) n kind (old + 1))
      go true is done =
          let old-full = eqb-true old 255 is in
          let wrapped : next ≡ 0 = raised ∙ rw old-full in
          rw wrapped at done
      go false other done =
          let not-old = eqb-false old 255 other in
          let one_more : next ≡ old + 1 = raised ∙ omega arith in
          rw one_more at done

-- ## A free place

pub lowest-inside : {A : Type 0} (test : A → Bool) (d : A) (xs : List A) → 1 ≤ lowest test 1 xs
    → Place (length xs) (lowest test 1 xs)
lowest-inside test d xs low = record { low = low; high = go (first_or_none test d xs) }
  where
    go : FirstOrNone test d xs → lowest test 1 xs ≤ length xs
    go (inl (k, f)) = let inside = f.inside in omega (arith, lowest-first test d 1 xs k f)
    go (inr h) = omega (arith, lowest-none test d 1 xs h)
