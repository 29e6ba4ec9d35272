-- A caller is led to a trail of every length up to 1,023, where the image has room: a new root and then so many
-- changes of prototype, each of the shape that the call before it answered, are all answered. It is a law, since
-- so long a run is too long to be computed.
-- Assumes nothing.
use Rattle.std.specs.Prelude.{Bool, List, [], ◌∷◌, ◌++◌, ◌⊎◌, ◌≢◌, ◌≡◌, ℕ, zero, suc, ◌+◌, ◌≤◌, ◌<◌, eqb, leb, length, replicate}
use Rattle.std.proofs.Math.Bool.{true, false}
use Rattle.std.proofs.Common.{inl, inr, ◌∙◌, arith, length-append}
use Rattle.std.proofs.Math.Option.{Option, none, some}
use Rattle.std.proofs.Math.Path.{refl, ap}
use borrow.Author.Tests.{leb-true, leb-false, lt-leb, eq-eqb, ne_eqb}
use Rattle.std.proofs.lemmas.List.{length-replicate}
use Rattle.std.specs.Prelude.{if◌then◌else◌}
use Rattle.store.specs.Lists.{at, put, first}
use Rattle.store.specs.Model.{Model, no_shape, no_edge, free, free_shape, free_table, free_edge, blank, shape_at}
use Rattle.store.specs.Model.{edge_at, table_at, put_shape, put_table, put_edge, used, Table}
use Rattle.store.specs.Layout.{parse}
use Rattle.store.specs.PlaceLaws.{same?, put-or-not}
use Rattle.store.specs.ListLaws.{Decided, either, not-both, every-place, every-replicate}
use Rattle.store.specs.declared.Limits.{Limits}
use Rattle.store.specs.declared.Shape.{Shape}
use Rattle.store.specs.declared.Edge.{Edge}
use Rattle.rules.specs.declared.ChangeTransitionAction.TheVariants.{Nothing}
use Rattle.rules.specs.declared.Refusal.TheVariants.{ShapesFull, TablesFull, EdgesFull}
use Rattle.rules.specs.Shapes.{root_shape, with_holds}
use Rattle.rules.specs.Refusals.{Got, ok, ◌>>=◌, place}
use Rattle.rules.proofs.FirstLaws.{prune-at}
use Rattle.rules.proofs.Formatted.{format-sound, format_read, format-tables, format-unheld}
use Rattle.rules.specs.Steps.{with_edges, prune, Step, prototype, edge_of, edge_kind, alike, dead, counter, pruned}
use Rattle.rules.specs.Steps.{counted, Placed, copy_to, child_table, child_shape, grow, make, along, step, fresh}
use Rattle.rules.specs.Steps.{limited}
use Rattle.rules.specs.Sound.{sound}
use Rattle.rules.specs.Unique.{rebased}
use Rattle.rules.specs.Calls.{Call, new_root, change_prototype, Given, Done, Reply, Yes, unheld, grant, perform}
use Rattle.rules.specs.Calls.{call, call_on, format}
use Rattle.rules.specs.InUse.{shared_used}
use Rattle.theorems.specs.Facts.{Used, GoodTable, Sound, used_place, shared-not-unique}
use Rattle.theorems.specs.FactsSound.{facts_sound}
use Rattle.theorems.specs.Taken.{place_found}
use Rattle.theorems.specs.Grow.{fresh_keeps, fresh-root}
use Rattle.theorems.specs.Prunes.{pruned_keeps, counted_keeps}
use Rattle.theorems.specs.Made.{SharedAt, transitions_at}
use Rattle.theorems.specs.SameTrail.{trail-length}
use Rattle.theorems.specs.Quiet.{one, raw_holds, step-holds}
use Rattle.theorems.specs.CallsKeep.{HeldAt, held_used, released_by, called, call-sound}
use Rattle.theorems.specs.CallsDo.{root_does, prototype_does}
use Rattle.theorems.specs.Sequence.{step_led}
use Rattle.theorems.specs.Frame.{kept-shared}
use Rattle.theorems.specs.WordsKeep.{sound-read, sound-call}
use Rattle.theorems.specs.CallersLog.{source, entry_for, leading, Logged, trailed, Line, line, Log}
use Rattle.theorems.specs.CallersLog.{empty_log, written, add_line, strike_line, log_after, log_from, heard}
use Rattle.theorems.specs.LogRight.{LogRight, line-held}
use Rattle.theorems.specs.Demand3Heard.{right_over, log_right}
use Rattle.theorems.specs.LogLimit.{written_in}

-- ## Free places

-- All shapes above the place s are free, and all edges above e.
record Above (m : Model) (s e : ℕ) : Type 0 where
  shapes : (k : ℕ) → s < k → free_shape (shape_at m k) ≡ true
  edges : (k : ℕ) → e < k → free_edge (edge_at m k) ≡ true

module _ {m : Model} {s e : ℕ} (a : Above m s e) where
  above_more : Above m (s + 1) (e + 1)
  above_more =
      record { shapes = λ k high. a.shapes k (omega arith); edges = λ k high. a.edges k (omega arith) }

  used_below : (n : ℕ) → Used m n → n ≤ s
  used_below n u = go (either (leb n s))
    where
      go : Decided (leb n s) → n ≤ s
      go (inl q) = leb-true n s q
      go (inr q) = not-both (a.shapes n (leb-false n s q)) u

  shape-above : (n : ℕ) → n ≤ s → (x : Shape) → Above (put_shape m n x) s e
  unfolding shape_at edge_at put_shape
  shape-above n low x =
      record { shapes = λ k high. go k high (put-or-not m.shapes n x no_shape k); edges = a.edges }
    where
      go : (k : ℕ) → s < k → let now = at (put m.shapes n x) k no_shape in
          (now ≡ at m.shapes k no_shape) ⊎ ((k ≡ n) × (now ≡ x)) → free_shape now ≡ true
      go k high (inl q) = ap free_shape q ∙ a.shapes k high
      go k high (inr (q, _)) = absurd (omega arith)

  edge-above : (n : ℕ) → n ≤ e → (x : Edge) → Above (put_edge m n x) s e
  unfolding shape_at edge_at put_edge
  edge-above n low x =
      record { shapes = a.shapes; edges = λ k high. go k high (put-or-not m.edges n x no_edge k) }
    where
      go : (k : ℕ) → e < k → let now = at (put m.edges n x) k no_edge in
          (now ≡ at m.edges k no_edge) ⊎ ((k ≡ n) × (now ≡ x)) → free_edge now ≡ true
      go k high (inl q) = ap free_edge q ∙ a.edges k high
      go k high (inr (q, _)) = absurd (omega arith)

-- A prune frees edges alone.
prune-above : {m : Model} {s e : ℕ} → Above m s e → (n kind : ℕ)
    → Above (with_edges m (prune n kind m.edges)) s e
unfolding shape_at edge_at
prune-above {m} {s} {e} a n kind =
    record {
      shapes = a.shapes;
      edges = λ k high.
          let x = at m.edges k no_edge in
          ap free_edge (prune-at n kind m.edges k) ∙ go k high (either (dead n kind x));
    }
  where
    go : (k : ℕ) → e < k → let x = at m.edges k no_edge in Decided (dead n kind x)
        → free_edge (if dead n kind x then no_edge else x) ≡ true
    go k high (inl q) = rw q
    go k high (inr q) = rw q (a.edges k high)

module _ {m : Model} {s e : ℕ} (a : Above m s e) (n kind : ℕ) (u : Used m n) where
  pruned-above : Above (pruned m n kind) s e
  unfolding pruned
  pruned-above = shape-above (prune-above a n kind) n (used_below a n u) _

  counted-above : Above (counted m n kind) s e
  unfolding counted
  counted-above = go (either (eqb (counter kind (shape_at m n).counters) 255))
    where
      go : Decided (eqb (counter kind (shape_at m n).counters) 255) → Above (counted m n kind) s e
      go (inl q) = rw q pruned-above
      go (inr q) = rw q (shape-above a n (used_below a n u) _)

-- ## A step is answered

bind_ok : {A B : Type 0} (g : Got A) (f : A → Got B) (x : A) → g ≡ ok x → (g >>= f) ≡ f x
bind_ok g f x e = rw e

-- A rule has given a result, with one shape and one edge more.
abbrev Gave : Got Placed → (s e : ℕ) → Type 0
Gave g s e = (y : Placed) × (g ≡ ok y) × Above y.0 (s + 1) (e + 1)

module _ (n p : ℕ) {s e : ℕ} where
  grow_gave : (m : Model) → Above m s e → s < length m.shapes → e < length m.edges
      → Gave (grow m n (prototype p)) s e
  unfolding grow child_table shape_at edge_at
  grow_gave m a shapes edges =
      let (c, gave_c, low_c) = place_found ShapesFull free_shape no_shape m.shapes (s + 1) (omega arith) (omega arith)
      (a.shapes (s + 1) (omega arith)) in
      let (d, gave_d, low_d) = place_found EdgesFull free_edge no_edge m.edges (e + 1) (omega arith) (omega arith)
      (a.edges (e + 1) (omega arith)) in
      let child = child_shape n (shape_at m n) (prototype p) (shape_at m n).table in
      let grown = edge-above (shape-above (above_more a) c low_c child) d low_d (edge_of n (prototype p) c) in (
        (put_edge (put_shape m c child) d (edge_of n (prototype p) c), c),
        bind_ok (place ShapesFull free_shape m.shapes) _ c gave_c
            ∙ bind_ok (place EdgesFull free_edge m.edges) _ d gave_d,
        grown,
      )

  make_gave : (m : Model) → Sound m → SharedAt m n → Above m s e → s < length m.shapes
      → e < length m.edges → Gave (make m n (prototype p)) s e
  unfolding make
  make_gave m sound h a shapes edges =
      let kind = edge_kind (prototype p) in
      let same = (counted_keeps m sound n kind h).same_limits in
      grow_gave (counted m n kind) (counted-above a n kind (shared_used (shape_at m n) h))
      (rw (ap (λ (l : Limits). l.S) same) shapes) (rw (ap (λ (l : Limits). l.E) same) edges)

  step_gave : (m : Model) → Sound m → SharedAt m n → Above m s e → s < length m.shapes
      → e < length m.edges → Gave (step m n (prototype p)) s e
  unfolding step
  step_gave m sound h a shapes edges = go (first (alike (edge_of n (prototype p) 0)) m.edges)
    where
      go : (o : Option Edge) → Gave (along o m n (prototype p)) s e
      go none = make_gave m sound h a shapes edges
      go (some x) = cases (either (eqb x.child 0))
        where
          cases : Decided (eqb x.child 0) → Gave (along (some x) m n (prototype p)) s e
          cases (inl q) =
              let kind = edge_kind (prototype p) in
              let u = shared_used (shape_at m n) h in
              let keeps = pruned_keeps m sound n kind h in
              let same = keeps.same_limits in
              let h₁ = kept-shared h (keeps.keeps n u) in
              rw q
              (make_gave (pruned m n kind) keeps.is_sound h₁ (pruned-above a n kind u)
              (rw (ap (λ (l : Limits). l.S) same) shapes) (rw (ap (λ (l : Limits). l.E) same) edges))
          cases (inr q) = rw q ((m, x.child), refl, above_more a)

-- ## A change of prototype is answered

-- There is room for i shapes, edges and holds more.
record Room (m : Model) (i : ℕ) : Type 0 where
  shapes_used : ℕ
  edges_used : ℕ
  above : Above m shapes_used edges_used
  shapes : shapes_used + i ≤ length m.shapes
  edges : edges_used + i ≤ length m.edges
  holds : (k : ℕ) → (shape_at m k).holds + i < 65535

-- A call is answered by the shape y, and there is room for i more.
record Answers (m : Model) (c : Call) (i : ℕ) : Type 0 where
  y : ℕ
  count : ℕ
  answer : (call m c).1 ≡ Yes (Given y Nothing count)
  room : Room (call m c).0 i

module _ (m : Model) (sound : Sound m) where
  -- Each hold more is one.
  holds_after : (c : Call) (i y count : ℕ) → (call m c).1 ≡ Yes (Given y Nothing count) → i < 65535
      → ((k : ℕ) → (shape_at m k).holds + suc i < 65535)
      → (k : ℕ) → (shape_at (call m c).0 k).holds + i < 65535
  unfolding shape_at
  holds_after c i y count answer few before k = go (same? k 0)
    where
      j : Model
      j = (call m c).0

      one-few : Decided (eqb y k) → one y k ≤ 1
      one-few (inl q) = rw q (omega arith)
      one-few (inr q) = rw q (omega arith)

      go : (k ≡ 0) ⊎ (k ≢ 0) → (shape_at j k).holds + i < 65535
      go (inl q) = rw q (omega arith)
      go (inr place) =
          let follow = rw answer at ((called m sound c).holds k place) in
          let raw = raw_holds m sound k in
          let now = raw_holds j (call-sound m c sound) k in
          let was = before k in
          let one = one-few (either (eqb y k)) in
          omega arith

  -- A call whose rule has given y, of which one hold more is granted.
  granted-answers : (c : Call) (i : ℕ) (rule : Got Placed) (y : Placed) {s e : ℕ}
      → perform m c ≡ (rule >>= grant Nothing) → rule ≡ ok y → (shape_at y.0 y.1).holds < 65535
      → Above y.0 s e → y.1 ≤ s → s + i ≤ length m.shapes → e + i ≤ length m.edges
      → ((k : ℕ) → (shape_at m k).holds + suc i < 65535) → Answers m c i
  unfolding call
  granted-answers c i rule y {s} {e} performs gave few above low shapes edges holds =
      let z = shape_at y.0 y.1 in
      let j = put_shape y.0 y.1 (with_holds z (z.holds + 1)) in
      let held : grant Nothing y ≡ ok (j, Given y.1 Nothing z.transitions)
      = rw (lt-leb 65535 z.holds few) in
      let done = performs ∙ bind_ok rule (grant Nothing) y gave ∙ held in
      let calls : call m c ≡ (j, Yes (Given y.1 Nothing z.transitions))
      = rw ((facts_sound m sound).1, done) in
      let answer = ap (λ (x : Model × Reply). x.1) calls in
      let same = (called m sound c).keeps.same_limits in
      record {
        y = y.1;
        count = z.transitions;
        answer = answer;
        room = record {
          shapes_used = s;
          edges_used = e;
          above = rw (ap (λ (x : Model × Reply). x.0) calls) (shape-above above y.1 low _);
          shapes = rw (ap (λ (l : Limits). l.S) same) shapes;
          edges = rw (ap (λ (l : Limits). l.E) same) edges;
          holds = holds_after c i y.1 z.transitions answer (omega (arith, holds 0)) holds;
        };
      }

  changed-answers : (x p i : ℕ) → HeldAt m x → SharedAt m x → transitions_at m x + 1 < 1024 → Room m (suc i)
      → Answers m (change_prototype x p) i
  unfolding perform rebased limited
  changed-answers x p i is_held h below room =
      let shapes = room.shapes in
      let edges = room.edges in
      let (y, gave, above) = step_gave x p m sound h room.above (omega arith) (omega arith) in
      let l = step_led m sound x h (prototype p) (omega arith) (refl, refl, tt) y gave in
      let z = shape_at y.0 y.1 in
      let many = step-holds m x (prototype p) y gave y.1 in
      let raw = raw_holds m sound y.1 in
      let now = raw_holds y.0 l.keeps.is_sound y.1 in
      let was = room.holds y.1 in
      let more : z.transitions ≢ 1024 = λ full. omega (arith, l.its_count, full, below) in
      let may : unheld m x ≡ false = rw (held_used m sound x is_held, ne_eqb (shape_at m x).holds 0 is_held) in
      let limit : limited y ≡ ok y = rw (ne_eqb z.transitions 1024 more) in
      let rule : rebased m x p ≡ ok y
      = rw (shared-not-unique (shape_at m x) h) (bind_ok (step m x (prototype p)) limited y gave ∙ limit) in
      granted-answers (change_prototype x p) i (rebased m x p) y (rw may) rule (omega arith) above
      (used_below above y.1 (shared_used z l.is_shared)) (omega arith) (omega arith) room.holds

-- ## One call after the other

-- From the words ws and the log l a caller is led to a trail of n steps.
pub record LedTo (ws : List ℕ) (l : Log) (n : ℕ) : Type 0 where
  pub calls : List Call
  pub number : ℕ
  pub root : ℕ
  pub steps : List Step
  pub is_written : written (log_from l (heard ws calls)).lines number ≡ trailed root steps
  pub its_length : length steps ≡ n

-- The newest line.
new_written : (xs : List Line) (n : ℕ) (e : Logged) → n ≢ 0 → written (add_line n e xs) n ≡ e
new_written xs n e place = rw (ne_eqb n 0 place, eq-eqb n n refl)

-- One call more, of whose answer the log says the trail us.
one_more : (ws : List ℕ) (l : Log) → sound ws ≡ true → (c : Call) {i n r : ℕ} {us : List Step}
    → (a : Answers (parse ws) c i) → HeldAt (call (parse ws) c).0 a.y
    → entry_for l.roots (written l.lines) (source c) ≡ trailed r us
    → (written (log_after c (call_on ws c).1 l).lines a.y ≡ trailed r us → Room (parse (call_on ws c).0) i
    → LedTo (call_on ws c).0 (log_after c (call_on ws c).1 l) n)
    → LedTo ws l n
one_more ws l e c {r = r} {us} a is_held entry rest =
    let m = parse ws in
    let s = sound-call ws c e in
    let j = (call m c).0 in
    let place = used_place j a.y (held_used j (call-sound m c (sound-read ws e).is_sound) a.y is_held) in
    let next : written (log_after c (call_on ws c).1 l).lines a.y ≡ trailed r us
    = rw (s.reply ∙ a.answer, entry)
    (new_written (strike_line (released_by c) l.lines) a.y (trailed r us) place) in
    let more = rest next (rw s.model a.room) in
    record {
      calls = c ∷ more.calls;
      number = more.number;
      root = more.root;
      steps = more.steps;
      is_written = more.is_written;
      its_length = more.its_length;
    }

leads_on : (i n : ℕ) (ws : List ℕ) (l : Log) → sound ws ≡ true → LogRight (parse ws) l
    → (x r : ℕ) (ts : List Step) → written l.lines x ≡ trailed r ts → length ts + i ≡ n → n < 1024
    → Room (parse ws) i → LedTo ws l n
leads_on zero n ws l e right x r ts logged long few room =
    record { calls = []; number = x; root = r; steps = ts; is_written = logged; its_length = omega arith }
leads_on (suc i) n ws l e right x r ts logged long few room =
    let m = parse ws in
    let is_sound = (sound-read ws e).is_sound in
    let there = written_in l.lines x r ts logged in
    let is_held = line-held m is_sound l right (line x (trailed r ts)) there in
    let (h, told, _) = right.each (line x (trailed r ts)) there in
    let its = trail-length m x in
    let same = ap length told in
    let c = change_prototype x 0 in
    let a = changed-answers m is_sound x 0 i is_held h (omega arith) room in
    let did = prototype_does m is_sound x 0 (ap (λ (r : Reply). ((call m c).0, r)) a.answer) in
    let us = ts ++ prototype 0 ∷ [] in
    let more = length-append ts (prototype 0 ∷ []) in
    let entry : leading (λ ts. ts ++ prototype 0 ∷ []) (written l.lines x) ≡ trailed r us
    = rw (logged, ne_eqb (length us) 1024 (λ full. omega (arith, more, full))) in
    one_more ws l e c a did.answered.is_held entry (λ next room.
    leads_on i n (call_on ws c).0 (log_after c (call_on ws c).1 l) (sound-call ws c e).is_sound
    (right_over ws (c ∷ []) l e right) a.y r us next (omega arith) few room)

-- ## From a formatted image

table-above : {m : Model} {s e : ℕ} → Above m s e → (t : ℕ) (x : Table) → Above (put_table m t x) s e
unfolding shape_at edge_at put_table
table-above a t x = record { shapes = a.shapes; edges = a.edges }

-- A new root is answered where nothing is in use.
root-answers : (m : Model) → Sound m → Above m 0 0 → 1 ≤ length m.tables → free_table (table_at m 1) ≡ true
    → ((k : ℕ) → (shape_at m k).holds ≡ 0) → (i : ℕ) → i < length m.shapes → i ≤ length m.edges → i < 1024
    → Answers m new_root i
unfolding perform fresh table_at shape_at
root-answers m sound a tables is_free unheld i shapes edges few =
    let (c, gave_c, low_c) = place_found ShapesFull free_shape no_shape m.shapes 1 (omega arith) (omega arith)
    (a.shapes 1 (omega arith)) in
    let (t, gave_t, _) = place_found TablesFull free_table free m.tables 1 (omega arith) tables is_free in
    let j = put_shape (put_table m t (used [])) c (root_shape t) in
    let rule : fresh m root_shape [] ≡ ok (j, c)
    = bind_ok (place ShapesFull free_shape m.shapes) _ c gave_c
    ∙ bind_ok (copy_to m []) _ (put_table m t (used []), t)
    (bind_ok (place TablesFull free_table m.tables) _ t gave_t) in
    let empty : GoodTable m.K [] = record { good = refl; room = omega arith } in
    let f = fresh_keeps m sound root_shape [] fresh-root empty (j, c) rule in
    let none = ap (λ (x : Shape). x.holds) f.stands in
    let one : Above m 1 0 = record { shapes = λ k high. a.shapes k (omega arith); edges = a.edges } in
    let above = shape-above (table-above one t (used [])) c low_c (root_shape t) in
    granted-answers m sound new_root i (fresh m root_shape []) (j, c) refl rule (omega arith) above low_c
    (omega arith) (omega arith) (λ k. omega (arith, unheld k))

-- Every record of a blank model is free.
all_free : {A : Type 0} (is_free : A → Bool) (count : ℕ) (x : A) → is_free x ≡ true → (k : ℕ)
    → is_free (at (replicate count x) k x) ≡ true
all_free is_free count x its = every-place x is_free (replicate count x) its (every-replicate is_free count x its)

blank-above : (l : Limits) → Above (blank l) 0 0
unfolding shape_at edge_at
blank-above l =
    record {
      shapes = λ k high. all_free free_shape l.S no_shape refl k;
      edges = λ k high. all_free free_edge l.E no_edge refl k;
    }

blank-table : (l : Limits) → free_table (table_at (blank l) 1) ≡ true
unfolding table_at
blank-table l = all_free free_table l.T free refl 1

-- A trail of n steps, for every n up to 1,023, where the image has room for n + 1 shapes and n edges.
pub long_trails : (l : Limits) (ws : List ℕ) → (format l ws).1 ≡ Yes Done → (n : ℕ) → n < 1024 → n < l.S
    → n ≤ l.E → LedTo (format l ws).0 empty_log n
long_trails l ws e n few shapes edges =
    let image = (format l ws).0 in
    let is_sound = format-sound l ws e in
    let m = parse image in
    let read = format_read l ws e in
    let sound = (sound-read image is_sound).is_sound in
    let a = root-answers m sound (rw read (blank-above l)) (rw (read, length-replicate) (format-tables l ws e))
    (rw read (blank-table l)) (format-unheld l ws e) n (rw (read, length-replicate) shapes)
    (rw (read, length-replicate) edges) few in
    let did = (root_does m sound (ap (λ (r : Reply). ((call m new_root).0, r)) a.answer)).0 in
    one_more image empty_log is_sound new_root a did.is_held refl (λ next room.
    leads_on n n (call_on image new_root).0 (log_after new_root (call_on image new_root).1 empty_log)
    (sound-call image new_root is_sound).is_sound
    (right_over image (new_root ∷ []) empty_log is_sound (log_right l ws e [])) a.y 0 [] next (omega arith) few room)
