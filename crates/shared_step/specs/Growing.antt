-- A child that is made: the places it takes, and the words that code writes for it.
-- Assumes nothing.
use Rattle.std.specs.Prelude.{Bool, true, ◌&&◌, List, ◌≢◌, ◌≡◌, refl, ℕ, ◌≤◌, eqb, length, Ok}
use Rattle.std.proofs.Common.{sym, ◌∙◌, ap₂, arith, eq-eqb, leb-true}
use Rattle.std.proofs.Math.Path.{ap}
use Rattle.slot.specs.Attributes.{most_stored, good_attributes}
use Rattle.store.specs.Lists.{lowest}
use Rattle.store.specs.Model.{Model, no_shape, no_edge, free_shape, free_edge, shape_at, table_at, put_shape}
use Rattle.store.specs.Model.{put_edge}
use Rattle.store.specs.Layout.{parse}
use Rattle.store.specs.Image.{Formed, Place, Becomes, and_then}
use Rattle.store.specs.ListLaws.{and_both, both-and, not-both}
use Rattle.store.specs.declared.Shape.{Shape}
use Rattle.store.specs.declared.Edge.{Edge}
use Rattle.rules.specs.declared.Refusal.TheVariants.{KeysFull, ShapesFull, EdgesFull}
use Rattle.rules.specs.Numbers.{good_key}
use Rattle.rules.specs.Shapes.{table_of}
use Rattle.rules.specs.Refusals.{Got, ok, place}
use Rattle.rules.proofs.Settled.{guard_passed}
use Rattle.rules.specs.Placing.{Passes, Places, places, placed}
use Rattle.rules.specs.Steps.{Step, insert, configure, prototype, edge_of, edge_attributes, added, Placed}
use Rattle.rules.specs.Steps.{child_table, child_shape, grow}
use Rattle.rules.specs.InUse.{shared_used}
use Rattle.theorems.specs.Facts.{Sound, used_place_inside, used_table}
use Rattle.theorems.specs.Taken.{bind_passed, place-passed, place-lowest}
use Rattle.theorems.specs.Child.{Legal}
use Rattle.child_table.specs.Parents.{Parent}

-- ## The places

-- What a rule g asks that takes the step t from the shape at n.
abbrev pub Ready : (ws : List ℕ) (n : ℕ) (t : Step) → Got Placed → Type 0
Ready ws n t g = Formed ws × (Sound (parse ws) × (Legal (parse ws) n t × Passes g))

-- What a contract's clauses say, one by one.
pub ready_of : (ws : List ℕ) (n : ℕ) (t : Step) (g : Got Placed) → Formed ws → Sound (parse ws)
    → Legal (parse ws) n t → Passes g → Ready ws n t g
ready_of ws n t g formed sound legal passes = (formed, (sound, (legal, passes)))

pub shape-place : {ws : List ℕ} {n : ℕ} {t : Step} {g : Got Placed} → Ready ws n t g
    → Place (length (parse ws).shapes) n
shape-place {ws} {n} (f, (sound, (legal, passes))) =
    used_place_inside (parse ws) n (shared_used (shape_at (parse ws) n) legal.is_shared)

-- A child that is not refused stands at c.
record Grows (m : Model) (n : ℕ) (t : Step) (c : ℕ) : Type 0 where
  room : added t ≡ 1 → (shape_at m n).properties ≢ m.K
  target : Place (length m.shapes) c
  tabled : Placed
  table : child_table m (shape_at m n) t ≡ ok tabled
  edge : 1 ≤ lowest free_edge 1 tabled.0.edges
  gave : grow m n t
      ≡ ok (
        put_edge (put_shape tabled.0 c (child_shape n (shape_at m n) t tabled.1))
            (lowest free_edge 1 tabled.0.edges) (edge_of n t c),
        c,
      )

grows : (m : Model) (n : ℕ) (t : Step) {c : ℕ} → Passes (grow m n t) → c ≡ lowest free_shape 1 m.shapes
    → Grows m n t c
unfolding grow
grows m n t {c} (y, e) its =
    let s = shape_at m n in
    let event = eqb (added t) 1 && eqb s.properties m.K in
    let (few, given) = guard_passed KeysFull event _ y e in
    let a = bind_passed (place ShapesFull free_shape m.shapes) _ y given in
    let b = bind_passed (child_table m s t) _ y a.below in
    let edges = b.result.0.edges in
    let d = bind_passed (place EdgesFull free_edge edges) _ y b.below in
    let low = place-lowest ShapesFull free_shape m.shapes a.result a.gave in
    let same : a.result ≡ c = low ∙ sym its in
    let p = place-passed ShapesFull free_shape no_shape m.shapes a.result a.gave in
    let free = place-lowest EdgesFull free_edge edges d.result d.gave in
    let q = place-passed EdgesFull free_edge no_edge edges d.result d.gave in
    rw (← same)
    record {
      room = λ one full.
          not-both (both-and (eq-eqb (added t) 1 one) (eq-eqb s.properties m.K full)) few;
      target = record { low = p.low; high = p.high };
      tabled = b.result;
      table = b.gave;
      edge = rw free at q.low;
      gave = e ∙ sym (rw free at d.below);
    }

byte_low : (k a : ℕ) (b : Bool) → (good_key k && good_attributes a && b) ≡ true → a ≤ most_stored
byte_low k a b h = leb-true a most_stored (and_both (good_key k) (and_both (good_key k && good_attributes a) h).0).1

label_low : (m : Model) (n : ℕ) (t : Step) → Legal m n t → edge_attributes t ≤ most_stored
label_low m n (insert k a) legal = byte_low k a _ legal.label
label_low m n (configure k a) legal = byte_low k a _ legal.label
label_low m n (prototype p) legal = omega arith

parent : (m : Model) → Sound m → (n : ℕ) (t : Step) → Legal m n t → {c : ℕ} → Grows m n t c
    → Parent m (shape_at m n) t
parent m sound n t legal g =
    let s = shape_at m n in
    let its = sound.shapes n (shared_used s legal.is_shared) in
    record {
      in_use = its.table_used;
      good = sound.tables s.table (table_of m s) (used_table (table_at m s.table) its.table_used);
      fits = its.count_fits;
      room = g.room;
      may = legal.may;
      low = label_low m n t legal;
    }

-- ## The words

-- The parent was read, and the child's place found.
module _ {a : List ℕ} {n : ℕ} {t : Step} (ready : Ready a n t (grow (parse a) n t)) {s : Shape}
    (read : s ≡ shape_at (parse a) n) {c : ℕ} (free : c ≡ lowest free_shape 1 (parse a).shapes) where
  abbrev m : Model
  m = parse a

  g : Grows m n t c
  g = grows m n t ready.1.1.1 free

  its_parent : Parent m s t
  its_parent = let (f, (sound, (legal, passes))) = ready in rw read (parent m sound n t legal g)

  table_given : child_table m s t ≡ ok g.tabled
  table_given = ap (λ (x : Shape). child_table m x t) read ∙ g.table

  pub table_ready : Formed a × (Parent m s t × Passes (child_table m s t))
  table_ready = (ready.0, (its_parent, (g.tabled, table_given)))

  -- No count of the child wraps.
  pub counts_fit : (s.transitions ≤ 1024) × (s.properties ≤ 2048)
  counts_fit =
      let (f, (sound, (legal, passes))) = ready in
      let below = legal.below in
      let count = ap (λ (x : Shape). x.transitions) read in
      let keys = f.limited.keys in
      let few = its_parent.good.room in
      let fits = its_parent.fits in
      (omega arith, omega arith)

  -- Its table was seen to,
  module _ (b : List ℕ) (table : ℕ) (first : Places a b (child_table m s t) (Ok table)) where
    tabled : Becomes a b g.tabled.0 × (table ≡ g.tabled.1)
    tabled = placed table_given first

    pub shape_ready : Formed b × Place (length (parse b).shapes) c
    shape_ready = (tabled.0.formed, rw tabled.0.sizes.shapes g.target)

    -- then the shape was put there,
    module _ {x : Shape} (its : x ≡ child_shape n s t table) {d : List ℕ}
        (second : Becomes b d (put_shape (parse b) c x)) where
      whole : parse d ≡ put_shape g.tabled.0 c (child_shape n (shape_at m n) t g.tabled.1)
      whole =
          let shape = its ∙ ap₂ (λ (y : Shape) (p : ℕ). child_shape n y t p) read tabled.1 in
          second.parsed ∙ ap₂ (λ (j : Model) (y : Shape). put_shape j c y) tabled.0.parsed shape

      same_place : lowest free_edge 1 (parse d).edges ≡ lowest free_edge 1 g.tabled.0.edges
      unfolding put_shape
      same_place = ap (λ (j : Model). lowest free_edge 1 j.edges) whole

      pub edge_ready : Formed d × (1 ≤ lowest free_edge 1 (parse d).edges)
      edge_ready = (second.formed, rw same_place g.edge)

      -- and then the edge.
      pub grown : {w : List ℕ} {e : Edge} → e ≡ edge_of n t c
          → Becomes d w (put_edge (parse d) (lowest free_edge 1 (parse d).edges) e)
          → Places a w (grow m n t) (Ok c)
      grown same third =
          let last = and_then second (rw (same_place, whole, same) at third) in
          places g.gave (and_then tabled.0 last) refl
