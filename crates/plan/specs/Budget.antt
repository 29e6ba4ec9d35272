-- What there is room for and what new steps take of it, as code finds it.
-- Assumes nothing.
use Rattle.std.specs.Prelude.{Bool, true, false, ◌&&◌, List, [], ◌∷◌, ◌≢◌, ◌≡◌, refl, ℕ, suc, ◌+◌, ◌-◌, ◌≤◌, eqb, length, drop, Err, Ok, Result}
use Rattle.std.proofs.Common.{inl, inr, ap, add-one, arith}
use borrow.Author.Tests.{eqb-false, eqb-true, eq-eqb, ne_eqb}
use Rattle.store.specs.Lists.{keep}
use Rattle.store.specs.Model.{Model, free_shape, free_table, free_edge, shape_at, table_at, entries_of}
use Rattle.store.specs.ListLaws.{Decided, either}
use Rattle.store.specs.declared.Shape.{Shape}
use Rattle.rules.specs.declared.Refusal.{Refusal}
use Rattle.rules.specs.declared.Refusal.TheVariants.{KeysFull, ShapesFull, TablesFull, EdgesFull}
use Rattle.rules.specs.Steps.{Step, insert, configure, prototype, added}
use Rattle.plan.specs.declared.Room.{Room}
use Rattle.plan.specs.Plan.{room_at, copies, whole_after, spent, spend, spend_all}
use Rattle.plan.specs.Answers.{spending_of, given_by}

-- ## What there is

pub room-read : (m : Model) (n back : ℕ) {s : Shape} {K long shapes tables edges : ℕ} → s ≡ shape_at m n
    → K ≡ m.K → long ≡ length (entries_of (table_at m s.table))
    → shapes ≡ length (keep free_shape m.shapes) → tables ≡ length (keep free_table m.tables)
    → edges ≡ length (keep free_edge m.edges)
    → record {
      keys = K - s.properties;
      shapes = shapes;
      tables = tables;
      edges = edges + back;
      whole = eqb s.properties long;
    } ≡ room_at m n back
unfolding room_at
room-read m n back shape limit its shapes tables edges = rw (its, limit, shapes, tables, edges, shape)

-- The limit: k transitions, and so many steps.
pub at_limit : (k count : ℕ) → k ≤ 1024 → eqb count (1024 - k) ≡ eqb (k + count) 1024
at_limit k count few = go (either (eqb count (1024 - k)))
  where
    go : Decided (eqb count (1024 - k)) → eqb count (1024 - k) ≡ eqb (k + count) 1024
    go (inl q) =
        let same = eqb-true count (1024 - k) q in
        rw (q, eq-eqb (k + count) 1024 (omega arith))
    go (inr q) =
        let other = eqb-false count (1024 - k) q in
        rw (q, ne_eqb (k + count) 1024 (λ e. other (omega arith)))

-- ## One step

-- There is enough of everything for a new step.
pub record Enough (t : Step) (r : Room) : Type 0 where
  pub keys : (eqb (added t) 1 && eqb r.keys 0) ≡ false
  pub shapes : r.shapes ≢ 0
  pub tables : (copies r.whole t && eqb r.tables 0) ≡ false
  pub edges : r.edges ≢ 0

pub enough_keys : (t : Step) (r : Room) → Enough t r → added t ≤ r.keys
enough_keys (insert k a) r e = let some = eqb-false r.keys 0 e.keys in omega arith
enough_keys (configure k a) r e = omega arith
enough_keys (prototype p) r e = omega arith

pub spent-each : (t : Step) (r : Room) {keys tables : ℕ} {whole : Bool} → keys ≡ added t
    → tables ≡ (spent t r).tables → whole ≡ whole_after r.whole t
    → record {
      keys = r.keys - keys;
      shapes = r.shapes - 1;
      tables = tables;
      edges = r.edges - 1;
      whole = whole;
    } ≡ spent t r
spent-each t r keys tables whole = rw (keys, tables, whole)

-- The tests in their order.
module _ (t : Step) (r : Room) {n : ℕ} (adds : n ≡ added t) where
  abbrev Answers : Result Room Refusal → Type 0
  Answers x = x ≡ spending_of (spend t r)

  pub no_keys : (eqb n 1 && eqb r.keys 0) ≡ true → Answers (Err KeysFull)
  unfolding spend
  no_keys lack = rw (← adds, lack)

  module _ (keys : (eqb n 1 && eqb r.keys 0) ≡ false) where
    pub no_shape_lem : r.shapes ≡ 0 → Answers (Err ShapesFull)
    unfolding spend
    no_shape_lem lack = rw (← adds, keys, lack)

    module _ (shapes : r.shapes ≢ 0) {b : Bool} (copied : b ≡ copies r.whole t) where
      pub no_table : (b && eqb r.tables 0) ≡ true → Answers (Err TablesFull)
      unfolding spend
      no_table lack = rw (← adds, keys, ne_eqb r.shapes 0 shapes, ← copied, lack)

      module _ (tables : (b && eqb r.tables 0) ≡ false) where
        pub no_edge_lem : r.edges ≡ 0 → Answers (Err EdgesFull)
        unfolding spend
        no_edge_lem lack = rw (← adds, keys, ne_eqb r.shapes 0 shapes, ← copied, tables, lack)

        module _ (edges : r.edges ≢ 0) where
          pub enough : Enough t r
          enough =
              record { keys = rw (← adds) keys; shapes = shapes; tables = rw (← copied) tables; edges = edges }

          pub step_left : {left : Room} → left ≡ spent t r → Answers (Ok left)
          unfolding spend
          step_left its =
              let e = enough in
              rw (e.keys, ne_eqb r.shapes 0 shapes, e.tables, ne_eqb r.edges 0 edges) (ap Ok its)

-- ## Step after step

module _ (ts : List Step) (room : Room) where
  -- After so many steps so much is left.
  pub record SpentTo (taken : ℕ) (left : Room) : Type 0 where
    pub rest : spend_all (drop taken ts) left ≡ spend_all ts room

  pub spend-start : SpentTo 0 room
  spend-start = record { rest = refl }

  module _ {taken : ℕ} {left : Room} (s : SpentTo taken left) where
    pub spend_end : drop taken ts ≡ [] → Ok left ≡ spending_of (spend_all ts room)
    spend_end all = ap spending_of (rw all at s.rest)

    module _ {t : Step} {x : Result Room Refusal} (next : drop taken ts ≡ t ∷ drop (suc taken) ts)
        (took : x ≡ spending_of (spend t left)) where
      pub spend_refused : {r : Refusal} → x ≡ Err r → Err r ≡ spending_of (spend_all ts room)
      spend_refused e = ap spending_of (rw (next, given_by (spend t left) took, e) at s.rest)

      pub spend_on : {r : Room} → x ≡ Ok r → SpentTo (taken + 1) r
      spend_on e = rw add-one (record { rest = rw (next, given_by (spend t left) took, e) at s.rest })
