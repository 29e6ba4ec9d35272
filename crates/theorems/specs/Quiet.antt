-- The rules that lead to a call's result leave the holds of every place as they are.
-- Assumes nothing.
use Rattle.std.specs.Prelude.{true, ◌&&◌, not, List, [], ◌∷◌, ◌++◌, ◌⊎◌, ◌≢◌, ◌≡◌, ℕ, ◌+◌, ◌-◌, eqb, leb, length}
use Rattle.std.proofs.Common.{inl, inr, ◌∙◌, ap, arith, eq-eqb, ne_eqb}
use Rattle.std.proofs.Math.Option.{Option, none, some}
use Rattle.std.proofs.Math.Path.{refl, sym}
use Rattle.std.specs.Prelude.{if◌then◌else◌}
use Rattle.slot.specs.Attributes.{same_width}
use Rattle.store.specs.Lists.{at, put, first}
use Rattle.store.specs.Model.{Table, Model, no_shape, free_shape, free_table, free_edge, shape_at, put_shape, put_table}
use Rattle.store.specs.Model.{put_edge}
use Rattle.store.specs.PlaceLaws.{put-or-not, AfterPut, here, elsewhere}
use Rattle.store.specs.ListLaws.{Decided, either}
use Rattle.store.specs.declared.Shape.{Shape}
use Rattle.store.specs.declared.Entry.{Entry}
use Rattle.store.specs.declared.Edge.{Edge}
use Rattle.rules.specs.declared.ChangeTransitionAction.{ChangeTransitionAction}
use Rattle.rules.specs.declared.Refusal.TheVariants.{KeysFull, ShapesFull, TablesFull, EdgesFull, HoldsFull}
use Rattle.rules.specs.Shapes.{has, attributes_in, configured, without, laid, unique, table_of, entries}
use Rattle.rules.specs.Shapes.{unique_shape, with_properties, with_holds}
use Rattle.rules.specs.Refusals.{Got, ok, place}
use Rattle.rules.proofs.Settled.{guard_passed, same_given}
use Rattle.rules.specs.Steps.{Step, insert, configure, prototype, edge_of, edge_kind, added, alike, counter}
use Rattle.rules.specs.Steps.{pruned, counted, Placed, copy_to, child_table, grow, make, along, step, steps}
use Rattle.rules.specs.Steps.{rollback, remove_shared, change_shared, fresh}
use Rattle.rules.specs.Unique.{emptied, replaced, insert_unique, remove_unique, change_unique, prototype_unique}
use Rattle.rules.specs.Sweep.{swept}
use Rattle.rules.specs.Calls.{Answer, Given, Freed, Done, Found, NotFound, Listed, Number, grant, release_one}
use Rattle.theorems.specs.Facts.{Used, Sound, unique_used}
use Rattle.theorems.specs.Holds.{shape-put}
use Rattle.theorems.specs.Taken.{bind_passed, place-passed}
use Rattle.theorems.specs.HeldChains.{swept_keeps, sweep_frees}

-- ## Statement

-- The holds of a shape, 0 of a free one.
abbrev pub holds_of : Shape → ℕ
holds_of s = if free_shape s then 0 else s.holds

abbrev pub holds_at : Model → ℕ → ℕ
holds_at m n = holds_of (shape_at m n)

-- The place that an answer gives a hold to, 0 for none.
abbrev pub granted_by : Answer → ℕ
granted_by (Given n action transitions) = n
granted_by (Freed shapes tables) = 0
granted_by Done = 0
granted_by (Found slot attributes) = 0
granted_by NotFound = 0
granted_by (Listed count out) = 0
granted_by (Number n) = 0

-- In a sound model a free shape has no holds anyway.
pub raw_holds : (m : Model) → Sound m → (n : ℕ) → holds_at m n ≡ (shape_at m n).holds
raw_holds m sound n = go (either (free_shape (shape_at m n)))
  where
    go : Decided (free_shape (shape_at m n)) → holds_at m n ≡ (shape_at m n).holds
    go (inl f) = rw f (sym (ap (λ (s : Shape). s.holds) (sound.free_shapes n f)))
    go (inr u) = rw u

-- Every place has the same holds in j as in m.
abbrev pub SameHolds : Model → Model → Type 0
SameHolds m j = (n : ℕ) → holds_at j n ≡ holds_at m n

-- A rule leaves the holds as they are.
abbrev pub Quiet : Model → Got Placed → Type 0
Quiet m g = (y : Placed) → g ≡ ok y → SameHolds m y.0

-- ## One record put

put_holds : (m : Model) (n : ℕ) (s : Shape) → holds_of s ≡ holds_at m n → SameHolds m (put_shape m n s)
unfolding shape_at put_shape
put_holds m n s h k = go (put-or-not m.shapes n s no_shape k)
  where
    now : Shape
    now = at (put m.shapes n s) k no_shape

    go : (now ≡ at m.shapes k no_shape) ⊎ ((k ≡ n) × (now ≡ s)) → holds_of now ≡ holds_at m k
    go (inl q) = ap holds_of q
    go (inr (e, q)) = ap holds_of q ∙ h ∙ ap (holds_at m) (sym e)

table-holds : (m : Model) (t : ℕ) (x : Table) → SameHolds m (put_table m t x)
unfolding shape_at put_table
table-holds m t x n = refl

edge-holds : (m : Model) (e : ℕ) (x : Edge) → SameHolds m (put_edge m e x)
unfolding shape_at put_edge
edge-holds m e x n = refl

-- ## Counters and prunes

module _ (m : Model) (n kind : ℕ) where
  pruned-holds : SameHolds m (pruned m n kind)
  unfolding pruned shape_at
  pruned-holds = put_holds _ n _ refl

  counted-holds : SameHolds m (counted m n kind)
  unfolding counted
  counted-holds = go (either (eqb (counter kind (shape_at m n).counters) 255))
    where
      go : Decided (eqb (counter kind (shape_at m n).counters) 255) → SameHolds m (counted m n kind)
      go (inl q) = rw q pruned-holds
      go (inr q) = rw q (put_holds m n _ refl)

-- ## A new shape

-- A shape without holds in a free place.
module _ (m j : Model) (same : SameHolds m j) (n : ℕ)
    (gave : place ShapesFull free_shape m.shapes ≡ ok n) (s : Shape) (unheld : holds_of s ≡ 0) where
  new_holds : SameHolds m (put_shape j n s)
  unfolding shape_at
  new_holds k =
      let was_free = (place-passed ShapesFull free_shape no_shape m.shapes n gave).was_free in
      put_holds j n s (unheld ∙ sym (same n ∙ rw was_free)) k ∙ same k

copy_holds : (m : Model) (es : List Entry) → Quiet m (copy_to m es)
copy_holds m es y e =
    let b = bind_passed (place TablesFull free_table m.tables) _ y e in
    rw (← same_given b.below) (table-holds m b.result _)

pub fresh_holds : (m : Model) (shape : ℕ → Shape) (es : List Entry) → ((t : ℕ) → holds_of (shape t) ≡ 0)
    → Quiet m (fresh m shape es)
unfolding fresh
fresh_holds m shape es unheld y e =
    let a = bind_passed (place ShapesFull free_shape m.shapes) _ y e in
    let b = bind_passed (copy_to m es) _ y a.below in
    let (m₁, t) = b.result in
    let same = copy_holds m es b.result b.gave in
    rw (← same_given b.below) (new_holds m m₁ same a.result a.gave (shape t) (unheld t))

-- ## Steps

table_given_holds : (m : Model) (s : Shape) (t : Step) → Quiet m (child_table m s t)
unfolding child_table
table_given_holds m s (insert k a) y e =
    go (either (eqb s.properties (length (table_of m s)) && not (has k (table_of m s))))
  where
    go : Decided (eqb s.properties (length (table_of m s)) && not (has k (table_of m s)))
        → SameHolds m y.0
    go (inl q) = rw (← same_given (rw q at e)) (table-holds m s.table _)
    go (inr q) = copy_holds m _ y (rw q at e)
table_given_holds m s (configure k a) y e = copy_holds m _ y e
table_given_holds m s (prototype p) y e = rw (← same_given e) (λ n. refl)

grow-holds : (m : Model) (n : ℕ) (t : Step) → Quiet m (grow m n t)
unfolding grow
grow-holds m n t y e =
    let event = eqb (added t) 1 && eqb (shape_at m n).properties m.K in
    let (few, given) = guard_passed KeysFull event _ y e in
    let a = bind_passed (place ShapesFull free_shape m.shapes) _ y given in
    let b = bind_passed (child_table m (shape_at m n) t) _ y a.below in
    let d = bind_passed (place EdgesFull free_edge b.result.0.edges) _ y b.below in
    let same = table_given_holds m (shape_at m n) t b.result b.gave in
    let new = new_holds m b.result.0 same a.result a.gave _ refl in
    rw (← same_given d.below) (λ k. edge-holds _ d.result _ k ∙ new k)

make-holds : (m : Model) (n : ℕ) (t : Step) → Quiet m (make m n t)
unfolding make
make-holds m n t y e k =
    grow-holds (counted m n (edge_kind t)) n t y e k ∙ counted-holds m n (edge_kind t) k

pub step-holds : (m : Model) (n : ℕ) (t : Step) → Quiet m (step m n t)
unfolding step
step-holds m n t y e = go (first (alike (edge_of n t 0)) m.edges) e
  where
    go : (x : Option Edge) → along x m n t ≡ ok y → SameHolds m y.0
    go none e = make-holds m n t y e
    go (some x) e = cases (either (eqb x.child 0))
      where
        cases : Decided (eqb x.child 0) → SameHolds m y.0
        cases (inl q) =
            let made = make-holds (pruned m n (edge_kind t)) n t y (rw q at e) in
            λ k. made k ∙ pruned-holds m n (edge_kind t) k
        cases (inr q) = rw (← same_given (rw q at e)) (λ k. refl)

steps-holds : (ts : List Step) (m : Model) (n : ℕ) → Quiet m (steps ts m n)
unfolding steps
steps-holds [] m n y e = rw (← same_given e) (λ k. refl)
steps-holds (t ∷ ts) m n y e =
    let b = bind_passed (step m n t) _ y e in
    let rest = steps-holds ts b.result.0 b.result.1 y b.below in
    λ k. rest k ∙ step-holds m n t b.result b.gave k

module _ (m : Model) (n k : ℕ) where
  pub removal-holds : Quiet m (remove_shared m n k)
  unfolding remove_shared
  removal-holds = let b = rollback m n k in steps-holds (b.newest ++ b.yielded) m b.base

  pub change-holds : (a : ℕ) → Quiet m (change_shared m n k a)
  unfolding change_shared
  change-holds a y e = go (either (same_width (attributes_in k (entries m (shape_at m n))) a))
    where
      go : Decided (same_width (attributes_in k (entries m (shape_at m n))) a) → SameHolds m y.0
      go (inl q) = step-holds m n (configure k a) y (rw q at e)
      go (inr q) =
          let b = rollback m n k in
          steps-holds (b.newest ++ insert k a ∷ b.yielded) m b.base y (rw q at e)

-- ## Unique shapes

module _ (m : Model) (n : ℕ) (is_unique : unique (shape_at m n) ≡ true) where
  abbrev s : Shape
  s = shape_at m n

  emptied-holds : (p : ℕ) → SameHolds m (emptied m n p)
  unfolding emptied
  emptied-holds p k =
      let u = unique_used s is_unique in
      put_holds (put_table m s.table _) n (unique_shape s.holds 0 p s.table)
      (rw (table-holds m s.table _ n, u)) k
      ∙ table-holds m s.table _ k

  replaced-holds : (p q : ℕ) (es : List Entry) → Quiet m (replaced (emptied m n p) q es)
  replaced-holds p q es y e k = fresh_holds (emptied m n p) _ es (λ t. refl) y e k ∙ emptied-holds p k

  pub insert_unique_holds : (k a : ℕ) → Quiet m (insert_unique m n k a)
  unfolding insert_unique
  insert_unique_holds k a y e =
      let (few, given) = guard_passed KeysFull (eqb s.properties m.K) _ y e in
      rw (← same_given given)
      (λ x. put_holds (put_table m s.table _) n (with_properties s _) (sym (table-holds m s.table _ n)) x
      ∙ table-holds m s.table _ x)

  pub remove_unique_holds : (k : ℕ) → Quiet m (remove_unique m n k)
  unfolding remove_unique
  remove_unique_holds k y e = go (either (has k (entries m s)))
    where
      go : Decided (has k (entries m s)) → SameHolds m y.0
      go (inl q) = replaced-holds 0 s.prototype (laid 0 (without (entries m s) k)) y (rw q at e)
      go (inr q) = rw (← same_given (rw q at e)) (λ x. refl)

  pub change-unique-holds : (k a : ℕ) → Quiet m (change_unique m n k a)
  unfolding change_unique
  change-unique-holds k a y e = go (either (same_width (attributes_in k (entries m s)) a))
    where
      go : Decided (same_width (attributes_in k (entries m s)) a) → SameHolds m y.0
      go (inl q) = rw (← same_given (rw q at e)) (table-holds m s.table _)
      go (inr q) = replaced-holds 0 s.prototype (laid 0 (configured (entries m s) k a)) y (rw q at e)

  pub prototype_unique_holds : (p : ℕ) → Quiet m (prototype_unique m n p)
  unfolding prototype_unique
  prototype_unique_holds p = replaced-holds s.prototype p (entries m s)

-- ## A hold given and taken, and a sweep

-- One hold at the place k, as the place n counts it.
abbrev pub one : (k n : ℕ) → ℕ
one k n = if eqb k n then 1 else 0

pub one_other : (k n : ℕ) → k ≢ n → one k n ≡ 0
one_other k n other = rw (ne_eqb k n other)

-- Place 0 is none.
pub not-counted : (n : ℕ) → n ≢ 0 → one 0 n ≡ 0
not-counted n place = one_other 0 n (λ e. place (sym e))

module _ (m : Model) (sound : Sound m) where
  -- Other holds for a shape in use.
  module _ (n : ℕ) (u : Used m n) where
    holds_after : (h k : ℕ)
        → AfterPut n k h (holds_at m k) (holds_at (put_shape m n (with_holds (shape_at m n) h)) k)
    holds_after h k = go (shape-put m sound n u (with_holds (shape_at m n) h) k)
      where
        now : ℕ
        now = holds_at (put_shape m n (with_holds (shape_at m n) h)) k

        go : AfterPut n k (with_holds (shape_at m n) h) (shape_at m k)
            (shape_at (put_shape m n (with_holds (shape_at m n) h)) k)
            → AfterPut n k h (holds_at m k) now
        go (here e q) = here e (ap holds_of q ∙ rw u)
        go (elsewhere e q) = elsewhere e (ap holds_of q)

    pub grant-holds : (action : ChangeTransitionAction) (y : Model × Answer) → grant action (m, n) ≡ ok y
        → (k : ℕ) → holds_at y.0 k ≡ holds_at m k + one (granted_by y.1) k
    grant-holds action y e k =
        let (few, given) = guard_passed HoldsFull (leb 65535 (shape_at m n).holds) _ y e in
        rw (← same_given given) (go (holds_after ((shape_at m n).holds + 1) k))
      where
        go : AfterPut n k ((shape_at m n).holds + 1) (holds_at m k)
            (holds_at (put_shape m n (with_holds (shape_at m n) ((shape_at m n).holds + 1))) k)
            → holds_at (put_shape m n (with_holds (shape_at m n) ((shape_at m n).holds + 1))) k
            ≡ holds_at m k + one n k
        go (here e q) = q ∙ rw (e, u, eq-eqb n n refl)
        go (elsewhere e q) = q ∙ rw (ne_eqb n k (λ z. e (sym z))) (omega arith)

    pub release_holds : (shape_at m n).holds ≢ 0
        → (k : ℕ) → holds_at (release_one m n) k + one n k ≡ holds_at m k
    release_holds is_held k = go (holds_after ((shape_at m n).holds - 1) k)
      where
        go : AfterPut n k ((shape_at m n).holds - 1) (holds_at m k) (holds_at (release_one m n) k)
            → holds_at (release_one m n) k + one n k ≡ holds_at m k
        go (here e q) = rw (q, e, u, eq-eqb n n refl) (omega arith)
        go (elsewhere e q) = rw (q, ne_eqb n k (λ z. e (sym z))) (omega arith)

  pub sweep_holds : SameHolds m (swept m)
  sweep_holds n =
      raw_holds (swept m) (swept_keeps m sound).is_sound n
      ∙ (sweep_frees m sound).holds n
      ∙ sym (raw_holds m sound n)
