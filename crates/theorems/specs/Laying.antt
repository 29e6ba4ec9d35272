-- The child's table for each kind of step: an insert appends or copies, configure copies, prototype shares.
-- Assumes nothing.
use Rattle.std.specs.Prelude.{true, false, ◌&&◌, not, List, ◌≢◌, ◌≡◌, ℕ, ◌+◌, ◌≤◌, eqb, length, take}
use Rattle.std.proofs.Common.{inl, inr, add-zero, arith, eqb-true, eq-eqb, take_all, length-take-le}
use Rattle.std.proofs.Math.Path.{refl, sym}
use Rattle.std.proofs.lemmas.Bool.{not-true}
use Rattle.std.proofs.Math.Seq.{take-append_seam}
use Rattle.slot.specs.Attributes.{good_attributes}
use Rattle.store.specs.Lists.{put}
use Rattle.store.specs.Model.{Table, free, used, Model, no_shape, no_edge, free_shape, free_table, free_edge}
use Rattle.store.specs.Model.{shape_at, table_at, put_shape, put_table, put_edge}
use Rattle.store.specs.PlaceLaws.{length-put, at-inside, at_put_other, at_put_same}
use Rattle.store.specs.ListLaws.{Decided, and_both, both-and, either, not-both}
use Rattle.store.specs.declared.Shape.{Shape}
use Rattle.store.specs.declared.Entry.{Entry}
use Rattle.rules.specs.declared.Refusal.TheVariants.{KeysFull, ShapesFull, TablesFull, EdgesFull}
use Rattle.rules.specs.Numbers.{good_key}
use Rattle.rules.specs.Shapes.{has, appended, configured, unique, table_of, entries}
use Rattle.rules.specs.Refusals.{Got, ok, ◌>>=◌, place}
use Rattle.rules.specs.Steps.{Step, insert, configure, prototype, step_entries, added, edge_of, Placed, copy_to}
use Rattle.rules.specs.Steps.{child_table, child_shape, grow}
use Rattle.rules.proofs.Settled.{guard_passed, same_given}
use Rattle.rules.specs.InUse.{shared_used}
use Rattle.theorems.specs.Facts.{Used, GoodTable, Sound, shared-not-unique, used_table}
use Rattle.theorems.specs.Entries.{good_take, good_appended, length-appended, attributes_take}
use Rattle.theorems.specs.Entries.{good_configured, length-configured, take-configured}
use Rattle.theorems.specs.Frame.{longer_same}
use Rattle.theorems.specs.Taken.{bind_passed, FreePlace, place-passed}
use Rattle.theorems.specs.Grow.{free_longer, free_unused}
use Rattle.theorems.specs.Child.{Ready, Laid, with_tables, Grown, child-grown}

-- What `child_table` gives.
pub record TableGiven (m : Model) (s : Shape) (t : Step) (y : Placed) : Type 0 where
  pub tables : List Table
  pub place : ℕ
  pub its : List Entry
  pub gave : y ≡ (with_tables m tables, place)
  pub laid : Laid m s t tables place its

module _ (m : Model) (sound : Sound m) (n : ℕ) (t : Step) (ready : Ready m n t)
    (room : added t ≡ 1 → (shape_at m n).properties ≢ m.K) where
  abbrev s : Shape
  s = shape_at m n

  abbrev whole : List Entry
  whole = table_of m (shape_at m n)

  in_use_lem : Used m n
  in_use_lem = shared_used s ready.legal.is_shared

  its-table : table_at m s.table ≡ used whole
  its-table = used_table (table_at m s.table) (sound.shapes n in_use_lem).table_used

  good_whole : GoodTable m.K whole
  good_whole = sound.tables s.table whole its-table

  fits : s.properties ≤ length whole
  fits = (sound.shapes n in_use_lem).count_fits

  own_length : length (entries m s) ≡ s.properties
  own_length = length-take-le s.properties whole fits

  -- A shared shape's table is no unique's.
  not-unique : (k : ℕ) → Used m k → unique (shape_at m k) ≡ true → (shape_at m k).table ≢ s.table
  not-unique k u r q =
      let same = (sound.shapes k u).unique_alone r n in_use_lem (sym q) in
      not-both r (shared-not-unique (shape_at m k) (rw same at ready.legal.is_shared))

  -- Its own table, with entries that begin with the old ones.
  own : (es : List Entry) → take (length whole) es ≡ whole → GoodTable m.K es
      → s.properties + added t ≤ length es
      → take (s.properties + added t) es ≡ step_entries t (entries m s)
      → Laid m s t (put m.tables s.table (used es)) s.table es
  unfolding table_at
  own es begins good enough stepped =
      let inside = at-inside free_table m.tables s.table free refl (sound.shapes n in_use_lem).table_used in
      record {
        same_count = length-put m.tables s.table (used es);
        table = at_put_same m.tables s.table (used es) free inside.0 inside.1;
        other_tables = λ k ne. at_put_other m.tables s.table k (used es) free ne;
        longer = record { in_use = λ u. refl; begins = begins };
        not_unique = not-unique;
        good = good;
        enough = enough;
        stepped = stepped;
      }

  -- A copy in a free table.
  copy : (es : List Entry) → GoodTable m.K es
      → s.properties + added t ≤ length es
      → take (s.properties + added t) es ≡ step_entries t (entries m s)
      → (y : Placed) → copy_to m es ≡ ok y → TableGiven m s t y
  unfolding table_at put_table
  copy es good enough stepped y e =
      let b = bind_passed (place TablesFull free_table m.tables) _ y e in
      let p = b.result in
      let u = place-passed TablesFull free_table free m.tables p b.gave in
      record {
        tables = put m.tables p (used es);
        place = p;
        its = es;
        gave = sym (same_given b.below);
        laid = record {
          same_count = length-put m.tables p (used es);
          table = at_put_same m.tables p (used es) free u.low u.high;
          other_tables = λ k ne. at_put_other m.tables p k (used es) free ne;
          longer = free_longer (table_at m p) es u.was_free;
          not_unique = λ k v r. free_unused m sound p u.was_free k v;
          good = good;
          enough = enough;
          stepped = stepped;
        };
      }

pub table_given : (m : Model) → Sound m → (n : ℕ) (t : Step) → Ready m n t
    → (added t ≡ 1 → (shape_at m n).properties ≢ m.K)
    → (y : Placed) → child_table m (shape_at m n) t ≡ ok y → TableGiven m (shape_at m n) t y
unfolding child_table put_table table_at
table_given m sound n (insert k a) ready room y e =
    go (either (eqb s.properties (length whole) && not (has k whole)))
  where
    s : Shape
    s = shape_at m n

    whole : List Entry
    whole = table_of m (shape_at m n)

    good : GoodTable m.K whole
    good = good_whole m sound n (insert k a) ready room

    less : s.properties ≢ m.K
    less = room refl

    labels : (good_key k ≡ true) × (good_attributes a ≡ true)
    labels = and_both (good_key k) (and_both (good_key k && good_attributes a) ready.legal.label).0

    absent : has k (entries m s) ≡ false
    absent = not-true (has k (entries m s)) ready.legal.may

    short : length (entries m s) ≡ s.properties
    short = own_length m sound n (insert k a) ready room

    most : s.properties ≤ length whole
    most = fits m sound n (insert k a) ready room

    go : Decided (eqb s.properties (length whole) && not (has k whole))
        → TableGiven m (shape_at m n) (insert k a) y
    go (inl q) =
        let (full, is_absent) = and_both (eqb s.properties (length whole)) q in
        let all = eqb-true s.properties (length whole) full in
        let es = appended whole k a in
        let more = length-appended whole k a in
        let own_all : entries m s ≡ whole = take_all s.properties whole (omega arith) in
        let none = not-true (has k whole) is_absent in
        let known = good_appended whole k a good.good labels.0 labels.1 none in
        let fit = good.room in
        let below = less in
        record {
          tables = put m.tables s.table (used es);
          place = s.table;
          its = es;
          gave = sym (same_given (rw q at e));
          laid = own m sound n (insert k a) ready room es (take-append_seam whole _)
              record { good = known; room = omega arith } (omega arith)
              (rw own_all (take_all (s.properties + 1) es (omega arith)));
        }
    go (inr q) =
        let es = appended (entries m s) k a in
        let more = length-appended (entries m s) k a in
        let fit = good.room in
        let below = less in
        let long = short in
        let few = most in
        let first = good_take s.properties whole good.good in
        let known = good_appended (entries m s) k a first labels.0 labels.1 absent in
        copy m sound n (insert k a) ready room es record { good = known; room = omega arith } (omega arith)
        (take_all (s.properties + 1) es (omega arith)) y (rw q at e)
table_given m sound n (configure k a) ready room y e =
    let s = shape_at m n in
    let whole = table_of m s in
    let good = good_whole m sound n (configure k a) ready room in
    let (held, wide) = and_both (has k (entries m s)) ready.legal.may in
    let wide_there = rw (attributes_take k s.properties whole held) at wide in
    let low = (and_both (good_key k) (and_both (good_key k && good_attributes a) ready.legal.label).0).1 in
    let known = good_configured whole k a good.good low wide_there in
    let same = length-configured whole k a in
    let fit = good.room in
    let most = fits m sound n (configure k a) ready room in
    copy m sound n (configure k a) ready room (configured whole k a)
    record { good = known; room = omega arith } (omega arith)
    (rw add-zero (take-configured s.properties whole k a)) y e
table_given m sound n (prototype q) ready room y e =
    let s = shape_at m n in
    let whole = table_of m s in
    let t = prototype q in
    let its = its-table m sound n t ready room in
    let most = fits m sound n t ready room in
    record {
      tables = m.tables;
      place = s.table;
      its = whole;
      gave = sym (same_given e);
      laid = record {
        same_count = refl;
        table = its;
        other_tables = λ k ne. refl;
        longer = rw (← its) (longer_same (table_at m s.table));
        not_unique = not-unique m sound n t ready room;
        good = good_whole m sound n t ready room;
        enough = omega arith;
        stepped = rw add-zero;
      };
    }

-- ## The child with its table

pub grow_keeps : (m : Model) → Sound m → (n : ℕ) (t : Step) → Ready m n t → (y : Placed) → grow m n t ≡ ok y
    → Grown m n t y
unfolding grow
grow_keeps m sound n t ready y e =
    let event = eqb (added t) 1 && eqb (shape_at m n).properties m.K in
    let (few, given) = guard_passed KeysFull event _ y e in
    let a = bind_passed (place ShapesFull free_shape m.shapes) _ y given in
    let b = bind_passed (child_table m (shape_at m n) t) _ y a.below in
    finish a.result (place-passed ShapesFull free_shape no_shape m.shapes a.result a.gave)
    b.result (table_given m sound n t ready (room few) b.result b.gave) b.below
  where
    room : eqb (added t) 1 && eqb (shape_at m n).properties m.K ≡ false
        → added t ≡ 1 → (shape_at m n).properties ≢ m.K
    room few one full =
        not-both (both-and (eq-eqb (added t) 1 one) (eq-eqb (shape_at m n).properties m.K full)) few

    with_edge : (c : ℕ) → Placed → (f : ℕ) → Got Placed
    with_edge c (m₁, p) f = ok (put_edge (put_shape m₁ c (child_shape n (shape_at m n) t p)) f (edge_of n t c), c)

    finish : (c : ℕ) → FreePlace free_shape no_shape m.shapes c
        → (x : Placed) → TableGiven m (shape_at m n) t x
        → (place EdgesFull free_edge x.0.edges >>= with_edge c x) ≡ ok y → Grown m n t y
    finish c u x g h =
        let d = bind_passed (place EdgesFull free_edge m.edges) _ y (rw g.gave at h) in
        let v = place-passed EdgesFull free_edge no_edge m.edges d.result d.gave in
        rw (← same_given d.below)
        (child-grown m sound n t ready g.tables g.place g.its g.laid c u d.result v)
