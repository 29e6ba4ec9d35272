-- A child with its edge and its table is refused, or made, as the room says; and what room it leaves.
-- Assumes nothing.
use Rattle.std.specs.Prelude.{Bool, true, ◌&&◌, not, List, ◌≢◌, ◌≡◌, ℕ, ◌+◌, ◌-◌, ◌≤◌, eqb, length}
use Rattle.std.proofs.Math.Bool.{false}
use Rattle.std.proofs.Common.{inl, inr, sym, ◌∙◌, add-zero, take_all, length-take-le}
use Rattle.std.proofs.Math.Path.{refl, ap}
use native.Mathlib.Omega.{arith}
use borrow.Author.Tests.{eqb-true, eqb-false, eq-eqb, ne_eqb, not-true}
use Rattle.std.specs.Prelude.{if◌then◌else◌}
use Rattle.store.specs.Lists.{at, put}
use Rattle.store.specs.Model.{Table, free, used, Model, no_counters, no_shape, no_edge, free_shape, free_table}
use Rattle.store.specs.Model.{free_edge, shape_at, table_at, edge_at, entries_of, put_shape, put_table, put_edge}
use Rattle.store.specs.PlaceLaws.{at_put_same, AfterPut, here, elsewhere, after-put}
use Rattle.store.specs.ListLaws.{Decided, either, not-both}
use Rattle.store.specs.declared.Shape.{Shape}
use Rattle.store.specs.declared.Entry.{Entry}
use Rattle.store.specs.declared.Edge.{Edge}
use Rattle.rules.specs.declared.Refusal.TheVariants.{KeysFull, ShapesFull, TablesFull, EdgesFull}
use Rattle.rules.specs.Shapes.{has, appended, configured, table_of, entries}
use Rattle.rules.specs.Refusals.{refuse}
use Rattle.rules.specs.Steps.{Step, insert, configure, prototype, added, edge_of, Placed, copy_to, child_table}
use Rattle.rules.specs.Steps.{child_shape, grow}
use Rattle.rules.specs.InUse.{shared_used}
use Rattle.theorems.specs.Facts.{Used, Sound, used_place, table-inside, keys_fit}
use Rattle.theorems.specs.Entries.{length-appended, length-configured}
use Rattle.theorems.specs.Taken.{FreePlace}
use Rattle.theorems.specs.Child.{Legal, with_tables}
use Rattle.plan.specs.declared.Room.{Room}
use Rattle.plan.specs.Plan.{count, is_whole, room_at, copies, whole_after, spent, spend}
use Rattle.plan.specs.Counting.{count-taken, count_same}
use Rattle.plan.specs.Agree.{Agree, given, agree-map, agree_then, agree_guard, agree-place}

-- ## The table

-- What `child_table` gives: how many tables it leaves, and whether the child's has other entries.
record Tabled (m : Model) (s : Shape) (t : Step) (y : Placed) : Type 0 where
  tables : List Table
  place : ℕ
  gave : y ≡ (with_tables m tables, place)
  left : (if copies (is_whole m s) t then count free_table m.tables - 1 else count free_table m.tables)
      ≡ count free_table tables
  whole :
      whole_after (is_whole m s) t ≡ eqb (s.properties + added t) (length (entries_of (at tables place free)))

copy_agrees : (m : Model) (s : Shape) (t : Step) (es : List Entry) → copies (is_whole m s) t ≡ true
    → whole_after (is_whole m s) t ≡ eqb (s.properties + added t) (length es)
    → Agree (λ y x. Tabled m s t y) (copy_to m es) (refuse TablesFull (eqb (count free_table m.tables) 0))
unfolding put_table
copy_agrees m s t es copied whole =
    agree-map (λ p. (put_table m p (used es), p))
    (agree-place TablesFull free_table free m.tables refl) (λ p x u.
    record {
      tables = put m.tables p (used es);
      place = p;
      gave = refl;
      left = rw copied (count-taken free_table m.tables p (used es) free u refl);
      whole = rw (at_put_same m.tables p (used es) free u.low u.high) whole;
    })

module _ (m : Model) (sound : Sound m) (n : ℕ) (u : Used m n) where
  abbrev s : Shape
  s = shape_at m n

  fits : s.properties ≤ length (table_of m s)
  fits = (sound.shapes n u).count_fits

  -- A table with no other entries lacks the key that the shape lacks.
  absent : (k : ℕ) → has k (entries m s) ≡ false → is_whole m s ≡ true → has k (table_of m s) ≡ false
  absent k none w =
      let all = eqb-true s.properties (length (table_of m s)) w in
      rw (take_all s.properties (table_of m s) (omega arith)) at none

  table_agrees : (t : Step) → Legal m n t
      → Agree (λ y x. Tabled m s t y) (child_table m s t)
      (refuse TablesFull (copies (is_whole m s) t && eqb (count free_table m.tables) 0))
  unfolding child_table put_table table_at
  table_agrees (insert k a) legal = go (either (is_whole m s))
    where
      none : has k (entries m s) ≡ false
      none = not-true (has k (entries m s)) legal.may

      go : Decided (is_whole m s)
          → Agree (λ y x. Tabled m s (insert k a) y) (child_table m s (insert k a))
          (refuse TablesFull (not (is_whole m s) && eqb (count free_table m.tables) 0))
      go (inl w) =
          let es = appended (table_of m s) k a in
          let inside = table-inside m sound n u in
          let low = inside.low in
          let high = inside.high in
          let all = eqb-true s.properties (length (table_of m s)) w in
          let long = length-appended (table_of m s) k a in
          rw (w, absent k none w)
          (given record {
            tables = put m.tables s.table (used es);
            place = s.table;
            gave = refl;
            left =
                let same = sym (sound.shapes n u).table_used in
                rw w (sym (count_same free_table m.tables s.table (used es) free low high same));
            whole =
                rw (at_put_same m.tables s.table (used es) free low high)
                (sym (eq-eqb (s.properties + 1) (length es) (omega arith)));
          })
      go (inr w) =
          let es = appended (entries m s) k a in
          let long = length-appended (entries m s) k a in
          let own = length-take-le s.properties (table_of m s) fits in
          let all = sym (eq-eqb (s.properties + 1) (length es) (omega arith)) in
          rw w (copy_agrees m s (insert k a) es (rw w) all)
  table_agrees (configure k a) legal =
      copy_agrees m s (configure k a) (configured (table_of m s) k a) refl
      (rw (length-configured (table_of m s) k a, add-zero))
  table_agrees (prototype p) legal =
      given record { tables = m.tables; place = s.table; gave = refl; left = refl; whole = rw add-zero }

-- ## The child

-- A place that no edge starts from, with both counters 0 and no holds.
pub record Fresh (m : Model) (n : ℕ) : Type 0 where
  pub alone : (e : ℕ) → (edge_at m e).parent ≢ n
  pub counters : (shape_at m n).counters ≡ no_counters
  pub unheld : (shape_at m n).holds ≡ 0

-- The child that is made is fresh, and r is the room it leaves.
pub record Made (y : Placed) (r : Room) : Type 0 where
  pub fresh : Fresh y.0 y.1
  pub left : r ≡ room_at y.0 y.1 0

module _ (m : Model) (sound : Sound m) (n : ℕ) (u : Used m n) (t : Step) where
  module _ (c : ℕ) (shape_place : FreePlace free_shape no_shape m.shapes c)
      (y : Placed) (tabled : Tabled m (shape_at m n) t y)
      (e : ℕ) (edge_place : FreePlace free_edge no_edge m.edges e) where
    abbrev ts : List Table
    ts = tabled.tables

    abbrev x : Shape
    x = child_shape n (shape_at m n) t tabled.place

    abbrev j : Model
    j = put_edge (put_shape (with_tables m ts) c x) e (edge_of n t c)

    stands : shape_at j c ≡ x
    unfolding shape_at put_shape put_edge
    stands = at_put_same m.shapes c x no_shape shape_place.low shape_place.high

    apart : (k : ℕ) → Used m k → k ≢ c
    unfolding shape_at
    apart k v q = not-both shape_place.was_free (rw q at v)

    alone : (k : ℕ) → (edge_at j k).parent ≢ c
    unfolding edge_at put_shape put_edge
    alone k q =
        go (after-put m.edges e (edge_of n t c) no_edge edge_place.low edge_place.high k)
        (either (free_edge (edge_at m k)))
      where
        go : AfterPut e k (edge_of n t c) (edge_at m k) (edge_at j k) → Decided (free_edge (edge_at m k)) → ⊥
        go (here z r) f = apart n u (sym (ap (λ (d : Edge). d.parent) r) ∙ q)
        go (elsewhere z r) (inl f) =
            let none = eqb-true (edge_at m k).parent 0 f in
            let its = ap (λ (d : Edge). d.parent) r in
            omega (arith, shape_place.low)
        go (elsewhere z r) (inr v) =
            let its = ap (λ (d : Edge). d.parent) r in
            let parent = shape_at m (edge_at m k).parent in
            apart (edge_at m k).parent (shared_used parent (sound.edges k v).parent_shared) (sym its ∙ q)

    left : spent t (room_at m n 0) ≡ room_at j c 0
    unfolding room_at table_at put_shape put_edge
    left =
        let s = shape_at m n in
        let keys : m.K - s.properties - added t ≡ m.K - (s.properties + added t) = omega arith in
        let shapes = count-taken free_shape m.shapes c x no_shape shape_place refl in
        let other = ne_eqb n 0 (used_place m n u) in
        let taken = count-taken free_edge m.edges e (edge_of n t c) no_edge edge_place other in
        let edges : count free_edge m.edges + 0 - 1 ≡ count free_edge (put m.edges e (edge_of n t c)) + 0
        = omega arith in
        rw stands (λ i.
        record {
          keys = keys i;
          shapes = shapes i;
          tables = tabled.left i;
          edges = edges i;
          whole = tabled.whole i;
        })

  pub grow_agrees : Legal m n t → Agree Made (grow m n t) (spend t (room_at m n 0))
  unfolding grow spend room_at
  grow_agrees legal =
      agree_guard KeysFull same_keys
      (agree_then (agree-place ShapesFull free_shape no_shape m.shapes refl) (λ c a shape_place.
      agree_then (table_agrees m sound n u t legal) (λ y b tabled.
      rw tabled.gave
      (agree_then (agree-place EdgesFull free_edge no_edge m.edges all) (λ e d edge_place.
      given record {
        fresh = record {
          alone = alone c shape_place y tabled e edge_place;
          counters = ap (λ (x : Shape). x.counters) (stands c shape_place y tabled e edge_place);
          unheld = ap (λ (x : Shape). x.holds) (stands c shape_place y tabled e edge_place);
        };
        left = left c shape_place y tabled e edge_place;
      })))))
    where
      s : Shape
      s = shape_at m n

      all : count free_edge m.edges ≡ count free_edge m.edges + 0
      all = sym (add-zero (count free_edge m.edges))

      same_keys :
          (eqb (added t) 1 && eqb s.properties m.K) ≡ (eqb (added t) 1 && eqb (m.K - s.properties) 0)
      same_keys = ap (λ (b : Bool). eqb (added t) 1 && b) (go (either (eqb s.properties m.K)))
        where
          go : Decided (eqb s.properties m.K)
              → eqb s.properties m.K ≡ eqb (m.K - s.properties) 0
          go (inl q) =
              let full = eqb-true s.properties m.K q in
              q ∙ sym (eq-eqb (m.K - s.properties) 0 (omega arith))
          go (inr q) =
              let few = eqb-false s.properties m.K q in
              let most = keys_fit m sound n u in
              q ∙ sym (ne_eqb (m.K - s.properties) 0 (λ z. few (omega arith)))
