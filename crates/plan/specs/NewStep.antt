-- A step with no live edge is refused, or makes a child, as the room says, with what its prunes give back.
-- Assumes nothing.
use Rattle.std.proofs.Math.Bool.{Bool, true, false}
use Rattle.std.specs.Prelude.{◌||◌, List, ◌≡◌, ℕ, suc, ◌+◌, length}
use Rattle.std.proofs.Common.{inl, inr, sym, ne_eqb, arith}
use Rattle.std.proofs.Math.Option.{Option, none, some}
use Rattle.std.proofs.Math.Path.{refl}
use Rattle.std.proofs.Math.Dec.{eqb}
use Rattle.std.specs.Prelude.{if◌then◌else◌}
use Rattle.store.specs.Model.{Model, no_shape, no_edge, free_shape, free_edge, shape_at, table_at, edge_at, put_shape}
use Rattle.store.specs.PlaceLaws.{at_put_same, first-none}
use Rattle.store.specs.Image.{Place}
use Rattle.store.specs.ListLaws.{Decided, either}
use Rattle.store.specs.declared.Counters.{Counters}
use Rattle.store.specs.declared.Shape.{Shape}
use Rattle.store.specs.declared.Edge.{Edge}
use Rattle.rules.specs.Shapes.{with_counters}
use Rattle.rules.specs.Steps.{Step, edge_of, edge_kind, alike, prune, counter, set_counter, with_edges, pruned}
use Rattle.rules.specs.Steps.{counted, make, along, step}
use Rattle.rules.specs.InUse.{shared_used}
use Rattle.theorems.specs.Facts.{Used, Sound, used_place, used_place_inside}
use Rattle.theorems.specs.Frame.{kept_used}
use Rattle.theorems.specs.Prunes.{pruned_keeps, counted_keeps}
use Rattle.theorems.specs.Child.{Legal}
use Rattle.theorems.specs.Makes.{legal_again}
use Rattle.plan.specs.Plan.{edge_for, child_of, is_edge, count, room_at, wraps, dead_edges, gives, spend}
use Rattle.plan.specs.Counting.{count_same, count-pruned}
use Rattle.plan.specs.Agree.{Agree}
use Rattle.plan.specs.NewChild.{Fresh, Made, grow_agrees}

-- ## The room after a prune and a counter

module _ (m : Model) (n : ℕ) (u : Used m n) where
  abbrev s : Shape
  s = shape_at m n

  abbrev inside : Place (length m.shapes) n
  inside = used_place_inside m n u

  module _ (es : List Edge) (c : Counters) where
    abbrev touched : Model
    touched = put_shape (with_edges m es) n (with_counters (shape_at m n) c)

    its_shape : shape_at touched n ≡ with_counters s c
    unfolding shape_at put_shape
    its_shape = at_put_same m.shapes n (with_counters s c) no_shape inside.low inside.high

    same_free : count free_shape touched.shapes ≡ count free_shape m.shapes
    unfolding shape_at put_shape
    same_free = count_same free_shape m.shapes n (with_counters s c) no_shape inside.low inside.high refl

    touched-room : (b back : ℕ) → count free_edge es + b ≡ count free_edge m.edges + back
        → room_at touched n b ≡ room_at m n back
    unfolding room_at put_shape table_at
    touched-room b back same = rw (its_shape, same_free, same)

module _ (m : Model) (n kind : ℕ) (u : Used m n) where
  abbrev old : Counters
  old = (shape_at m n).counters

  pruned-room : room_at (pruned m n kind) n 0 ≡ room_at m n (dead_edges m n kind)
  unfolding pruned put_shape shape_at
  pruned-room =
      let left = count-pruned n kind (used_place m n u) m.edges in
      let es = prune n kind m.edges in
      touched-room m n u es (set_counter kind 0 old) 0 (dead_edges m n kind) (omega arith)

  pruned-wraps : wraps (pruned m n kind) n kind ≡ false
  unfolding pruned shape_at
  pruned-wraps = rw (its_shape m n u (prune n kind m.edges) (set_counter kind 0 old)) (go (eqb kind 0))
    where
      set : Bool → Counters
      set b =
          if b then record { property = 0; prototype = old.prototype }
          else record { property = old.property; prototype = 0 }

      go : (b : Bool) → eqb (if b then (set b).property else (set b).prototype) 255 ≡ false
      go true = refl
      go false = refl

  counted-room : room_at (counted m n kind) n 0 ≡ room_at m n (if wraps m n kind then dead_edges m n kind else 0)
  unfolding counted put_shape
  counted-room = go (either (wraps m n kind))
    where
      go : Decided (wraps m n kind)
          → room_at (counted m n kind) n 0 ≡ room_at m n (if wraps m n kind then dead_edges m n kind else 0)
      go (inl q) = rw q pruned-room
      go (inr q) = rw q (touched-room m n u m.edges (set_counter kind (counter kind old + 1) old) 0 0 refl)

-- ## The step

-- One more child, after the counter is seen to.
make_agrees : (m : Model) → Sound m → (n : ℕ) (t : Step) → Legal m n t
    → let kind = edge_kind t in
    Agree Made (make m n t) (spend t (room_at m n (if wraps m n kind then dead_edges m n kind else 0)))
unfolding make
make_agrees m sound n t legal =
    let kind = edge_kind t in
    let u = shared_used (shape_at m n) legal.is_shared in
    let j = counted m n kind in
    let keeps = counted_keeps m sound n kind legal.is_shared in
    rw (← counted-room m n kind u)
    (grow_agrees j keeps.is_sound n (kept_used u (keeps.keeps n u)) t (legal_again m j keeps n t legal))

pub new_step : (m : Model) → Sound m → (n : ℕ) (t : Step) → Legal m n t → child_of (edge_for m n t) ≡ 0
    → Agree Made (step m n t) (spend t (room_at m n (gives m n t)))
unfolding step gives
new_step m sound n t legal new = go (edge_for m n t) new
  where
    kind : ℕ
    kind = edge_kind t

    u : Used m n
    u = shared_used (shape_at m n) legal.is_shared

    go : (o : Option Edge) → child_of o ≡ 0
        → Agree Made (along o m n t)
        (spend t (room_at m n (if is_edge o || wraps m n kind then dead_edges m n kind else 0)))
    go none new = make_agrees m sound n t legal
    go (some e) new =
        let j = pruned m n kind in
        let keeps = pruned_keeps m sound n kind legal.is_shared in
        let after = make_agrees j keeps.is_sound n t (legal_again m j keeps n t legal) in
        rw (new, ← pruned-room m n kind u) (rw (pruned-wraps m n kind u) at after)

-- ## From a fresh place: no step has an edge, and there is nothing to prune

module _ (m : Model) (n : ℕ) (fresh : Fresh m n) (t : Step) where
  no_edge_lem : edge_for m n t ≡ none
  unfolding edge_at
  no_edge_lem =
      first-none (alike (edge_of n t 0)) no_edge m.edges (λ k l.
      rw (ne_eqb n (edge_at m (suc k)).parent (λ q. fresh.alone (suc k) (sym q))))

  pub fresh_new : child_of (edge_for m n t) ≡ 0
  fresh_new = rw no_edge_lem

  pub fresh_gives : gives m n t ≡ 0
  unfolding gives
  fresh_gives = rw (no_edge_lem, fresh.counters) (go (eqb (edge_kind t) 0))
    where
      go : (b : Bool) → (if eqb (if b then 0 else 0) 255 then dead_edges m n (edge_kind t) else 0) ≡ 0
      go true = refl
      go false = refl
