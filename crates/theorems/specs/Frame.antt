-- One theorem for every change: a model that differs from a sound one only as `Change` says is sound, and
-- what stays in it is kept.
-- Assumes nothing.
use Rattle.std.specs.Prelude.{true, false, List, ◌⊎◌, ◌≢◌, ◌≡◌, refl, ℕ, zero, suc, ◌≤◌, length, take}
use Rattle.std.proofs.Common.{inl, inr, sym, ◌∙◌, arith, eqb-true, length-take, take-take}
use Rattle.std.proofs.Math.Path.{ap}
use Rattle.std.proofs.Math.Seq.{take-length}
use Rattle.store.specs.Lists.{last}
use Rattle.store.specs.Model.{Table, used, Model, limits_of, no_counters, no_shape, no_edge, free_shape}
use Rattle.store.specs.Model.{free_table, free_edge, shape_at, table_at, edge_at, entries_of}
use Rattle.store.specs.ListLaws.{Decided, either, not-both}
use Rattle.store.specs.declared.Limits.{Limits}
use Rattle.store.specs.declared.Counters.{Counters}
use Rattle.store.specs.declared.Shape.{Shape}
use Rattle.store.specs.declared.Entry.{Entry}
use Rattle.store.specs.declared.Edge.{Edge}
use Rattle.rules.specs.Shapes.{shared, unique, is_child, table_of, entries, with_holds, with_counters}
use Rattle.rules.specs.Steps.{backward, chain}
use Rattle.rules.specs.Sound.{good_label}
use Rattle.rules.specs.Sweep.{deadened}
use Rattle.rules.specs.Trails.{made_by, trail_of, trail, root}
use Rattle.theorems.specs.Facts.{Used, GoodWords, InLimits, ChildSound, ShapeSound, User, GoodTable}
use Rattle.rules.specs.InUse.{shared_used}
use Rattle.theorems.specs.Facts.{LeadsTo, EdgeSound, Alike, Sound, unique_used, used_place}
use Rattle.theorems.specs.Facts.{transitions_child}
use Rattle.theorems.specs.TestsSay.{edge_to}

-- ## What a change is

-- A shape but for its holds and counters.
abbrev pub core : Shape → Shape
core s = with_holds (with_counters s no_counters) 0

-- b is in use where a is, and begins with a's entries.
pub record Longer (a b : Table) : Type 0 where
  pub in_use : free_table a ≡ false → free_table b ≡ false
  pub begins : take (length (entries_of a)) (entries_of b) ≡ entries_of a

-- The shape at place n stays from i to j, P saying which shapes do.
pub record Stays (i j : Model) (P : ℕ → Type 0) (n : ℕ) : Type 0 where
  pub was_used : Used i n
  pub previous : is_child (shape_at i n) ≡ true → P (shape_at i n).previous
  pub same_core : core (shape_at j n) ≡ core (shape_at i n)
  pub limits : InLimits (shape_at j n)
  pub longer : Longer (table_at i (shape_at i n).table) (table_at j (shape_at i n).table)
  pub unique_table : unique (shape_at i n) ≡ true
      → table_at j (shape_at i n).table ≡ table_at i (shape_at i n).table
  pub edges : (e : ℕ) → (edge_at i e).child ≡ n → edge_at j e ≡ edge_at i e

-- Each place of j holds a shape that stays, none, or one that is sound by itself and has the table of no
-- unique that stays.
pub data ShapeCase (i j : Model) (P : ℕ → Type 0) (n : ℕ) : Type 0 where
  stays : P n → ShapeCase i j P n
  vacant : shape_at j n ≡ no_shape → ShapeCase i j P n
  made : ShapeSound j n (shape_at j n)
      → ((k : ℕ) → P k → unique (shape_at i k) ≡ true → (shape_at j n).table ≢ (shape_at i k).table)
      → ShapeCase i j P n

-- Each place of j holds an edge as it was between shapes that stay, one from a shape that stays with its
-- child cut off, none, or one that is sound by itself, leads to no shape that stays and is like no other.
pub data EdgeCase (i j : Model) (P : ℕ → Type 0) (e : ℕ) : Type 0 where
  kept : edge_at j e ≡ edge_at i e → P (edge_at i e).parent → ((edge_at i e).child ≢ 0 → P (edge_at i e).child)
      → EdgeCase i j P e
  cut : edge_at j e ≡ deadened (edge_at i e) → P (edge_at i e).parent → EdgeCase i j P e
  vacant : edge_at j e ≡ no_edge → EdgeCase i j P e
  made : EdgeSound j (edge_at j e) → (P (edge_at j e).child → ⊥)
      → ((f : ℕ) → Alike (edge_at j e) (edge_at j f) → f ≡ e) → EdgeCase i j P e

pub record Change (i j : Model) (P : ℕ → Type 0) : Type 0 where
  pub same_limits : limits_of j ≡ limits_of i
  pub staying : (n : ℕ) → P n → Stays i j P n
  pub shapes : (n : ℕ) → ShapeCase i j P n
  pub tables : (t : ℕ) (es : List Entry) → table_at j t ≡ used es
      → (table_at i t ≡ used es) ⊎ GoodTable j.K es
  pub users : (t : ℕ) → free_table (table_at j t) ≡ false → User j t
  pub edges : (e : ℕ) → EdgeCase i j P e

-- A shape that is kept: the same but for holds and counters, with the same entries, trail and way back.
pub record Kept (i j : Model) (n : ℕ) : Type 0 where
  pub same_core : core (shape_at j n) ≡ core (shape_at i n)
  pub same_entries : entries j (shape_at j n) ≡ entries i (shape_at i n)
  pub same_trail : trail j n ≡ trail i n
  pub same_chain : chain j n ≡ chain i n

-- ## Holds and counters put back

abbrev again : Shape → Counters → (holds : ℕ) → Shape
again s c h = with_holds (with_counters s c) h

same_again : (s t : Shape) → core t ≡ core s → t ≡ again s t.counters t.holds
same_again s t e = ap (λ (x : Shape). again x t.counters t.holds) e

again-words : {s : Shape} (c : Counters) (h : ℕ) → GoodWords s → GoodWords (again s c h)
again-words c h w =
    record {
      state = w.state;
      step = w.step;
      transitions = w.transitions;
      root = λ r. let z = w.root r in record {
        step = z.step;
        transitions = z.transitions;
        properties = z.properties;
        prototype = z.prototype;
      };
      unique = λ r. let z = w.unique r in record {
        previous = z.previous;
        step = z.step;
        transitions = z.transitions;
      };
    }

-- A shape's own entries are the same in a longer table.
pub longer_entries : (i j : Model) (s : Shape) → Longer (table_at i s.table) (table_at j s.table)
    → s.properties ≤ length (table_of i s) → entries j s ≡ entries i s
longer_entries i j s l fits =
    sym (take-take s.properties (length (table_of i s)) (table_of j s) fits)
    ∙ ap (λ (es : List Entry). take s.properties es) l.begins

-- ## What stays

module _ (i j : Model) (P : ℕ → Type 0) (sound : Sound i) (c : Change i j P) where
  is_again : (n : ℕ) → P n → shape_at j n ≡ again (shape_at i n) (shape_at j n).counters (shape_at j n).holds
  is_again n p = same_again (shape_at i n) (shape_at j n) (c.staying n p).same_core

  was : (n : ℕ) → P n → ShapeSound i n (shape_at i n)
  was n p = sound.shapes n (c.staying n p).was_used

  entries_stay : (n : ℕ) → P n → entries j (shape_at i n) ≡ entries i (shape_at i n)
  entries_stay n p = longer_entries i j (shape_at i n) (c.staying n p).longer (was n p).count_fits

  count_stays : (n : ℕ) → P n → (shape_at i n).properties ≤ length (table_of j (shape_at i n))
  count_stays n p =
      let a = table_of i (shape_at i n) in
      let b = table_of j (shape_at i n) in
      let fits = (was n p).count_fits in
      omega (arith, length-take (length a) b, ap length (c.staying n p).longer.begins)

  alone_stays : (n : ℕ) → P n → unique (shape_at i n) ≡ true
      → (k : ℕ) → Used j k → (shape_at j k).table ≡ (shape_at i n).table → k ≡ n
  alone_stays n p r k u q = go (c.shapes k)
    where
      go : ShapeCase i j P k → k ≡ n
      go (stays pk) =
          let same : (shape_at j k).table ≡ (shape_at i k).table = ap (λ (s : Shape). s.table) (is_again k pk) in
          (was n p).unique_alone r k (c.staying k pk).was_used (sym same ∙ q)
      go (vacant e) = not-both (ap free_shape e) u
      go (made s apart) = absurd (apart n p r q)

  edge_stays : (n : ℕ) → P n → (e : ℕ) → (edge_at j e).child ≡ n → (edge_at i e).child ≡ n
  edge_stays n p e h = go (c.edges e)
    where
      place : n ≢ 0
      place = used_place i n (c.staying n p).was_used

      go : EdgeCase i j P e → (edge_at i e).child ≡ n
      go (kept q pp pc) = rw q at h
      go (cut q pp) = absurd (place (sym h ∙ ap (λ (x : Edge). x.child) q))
      go (vacant q) = absurd (place (sym h ∙ ap (λ (x : Edge). x.child) q))
      go (made s leads like) = absurd (leads (rw h p))

  child_stays : (n : ℕ) → P n → is_child (shape_at i n) ≡ true → (x : Counters) (h : ℕ)
      → ChildSound j n (again (shape_at i n) x h) (shape_at j (shape_at i n).previous)
  child_stays n p r x h =
      let k = (was n p).child r in
      let before = (c.staying n p).previous r in
      let its = (c.staying n p).edges k.edge k.leads_here in
      rw (is_again (shape_at i n).previous before)
      record {
        previous_shared = k.previous_shared;
        one_more = k.one_more;
        edge = k.edge;
        leads_here = rw its k.leads_here;
        only_edge = λ e h. k.only_edge e (edge_stays n p e h);
        from_previous = rw its k.from_previous;
        stepped = rw (its, entries_stay n p, entries_stay (shape_at i n).previous before) k.stepped;
      }

  shape_stays : (n : ℕ) → P n → ShapeSound j n (shape_at j n)
  shape_stays n p =
      let w = was n p in
      let s = c.staying n p in
      let limits = rw (is_again n p) at s.limits in
      rw (is_again n p)
      record {
        words = again-words (shape_at j n).counters (shape_at j n).holds w.words;
        limits = limits;
        table_used = s.longer.in_use w.table_used;
        count_fits = count_stays n p;
        unique_whole = λ r. rw (s.unique_table r) (w.unique_whole r);
        unique_alone = alone_stays n p;
        child = λ r. child_stays n p r (shape_at j n).counters (shape_at j n).holds;
      }

  -- ## The whole of j

  a-shape : (n : ℕ) → Used j n → ShapeSound j n (shape_at j n)
  a-shape n u = go (c.shapes n)
    where
      go : ShapeCase i j P n → ShapeSound j n (shape_at j n)
      go (stays p) = shape_stays n p
      go (vacant e) = not-both (ap free_shape e) u
      go (made s apart) = s

  a_free_shape : (n : ℕ) → free_shape (shape_at j n) ≡ true → shape_at j n ≡ no_shape
  a_free_shape n f = go (c.shapes n)
    where
      in_use_lem : (shared (shape_at j n) ≡ true) ⊎ (unique (shape_at j n) ≡ true) → Used j n
      in_use_lem (inl e) = shared_used (shape_at j n) e
      in_use_lem (inr e) = unique_used (shape_at j n) e

      go : ShapeCase i j P n → shape_at j n ≡ no_shape
      go (stays p) = not-both f (in_use_lem (shape_stays n p).words.state)
      go (vacant e) = e
      go (made s apart) = not-both f (in_use_lem s.words.state)

  parent_stays : (n : ℕ) → P n → shared (shape_at i n) ≡ true → shared (shape_at j n) ≡ true
  parent_stays n p h = rw (is_again n p) h

  label_stays : (e : Edge) → P e.parent → good_label (entries i (shape_at i e.parent)) e ≡ true
      → good_label (entries j (shape_at j e.parent)) e ≡ true
  label_stays e p h = rw (is_again e.parent p, entries_stay e.parent p) h

  leads_stay : {e : Edge} (n : ℕ) → P n → LeadsTo e (shape_at i n) → LeadsTo e (shape_at j n)
  leads_stay n p l =
      rw (is_again n p) record { is_shared = l.is_shared; previous = l.previous; kind_fits = l.kind_fits }

  an_edge : (e : ℕ) → free_edge (edge_at j e) ≡ false → EdgeSound j (edge_at j e)
  an_edge e u = go (c.edges e)
    where
      x : Edge
      x = edge_at i e

      go : EdgeCase i j P e → EdgeSound j (edge_at j e)
      go (kept q pp pc) =
          let s = sound.edges e (sym (ap free_edge q) ∙ u) in
          rw q
          record {
            parent_shared = parent_stays x.parent pp s.parent_shared;
            kind = s.kind;
            label = label_stays x pp s.label;
            child = λ ne. leads_stay x.child (pc ne) (s.child ne);
          }
      go (cut q pp) =
          let s = sound.edges e (sym (ap free_edge q) ∙ u) in
          rw q
          record {
            parent_shared = parent_stays x.parent pp s.parent_shared;
            kind = s.kind;
            label = label_stays x pp s.label;
            child = λ ne. absurd (ne refl);
          }
      go (vacant q) = not-both (ap free_edge q) u
      go (made s leads like) = s

  a_free_edge : (e : ℕ) → free_edge (edge_at j e) ≡ true → edge_at j e ≡ no_edge
  a_free_edge e f = go (c.edges e)
    where
      go : EdgeCase i j P e → edge_at j e ≡ no_edge
      go (kept q pp pc) = q ∙ sound.free_edges e (sym (ap free_edge q) ∙ f)
      go (cut q pp) = q ∙ ap deadened (sound.free_edges e (sym (ap free_edge q) ∙ f))
      go (vacant q) = q
      go (made s leads like) =
          let used = shared_used (shape_at j (edge_at j e).parent) s.parent_shared in
          absurd (used_place j (edge_at j e).parent used (eqb-true (edge_at j e).parent 0 f))

  -- An edge in use is like an old one, or made.
  abbrev OldOrMade : ℕ → Type 0
  OldOrMade e = Alike (edge_at j e) (edge_at i e) ⊎ ((f : ℕ) → Alike (edge_at j e) (edge_at j f) → f ≡ e)

  old-or-made : (e : ℕ) → free_edge (edge_at j e) ≡ false → OldOrMade e
  old-or-made e u = go (c.edges e)
    where
      go : EdgeCase i j P e → OldOrMade e
      go (kept q pp pc) = inl (ap deadened q)
      go (cut q pp) = inl (ap deadened q)
      go (vacant q) = not-both (ap free_edge q) u
      go (made s leads like) = inr like

  not_alike_lem : (e f : ℕ) → free_edge (edge_at j e) ≡ false → Alike (edge_at j e) (edge_at j f) → e ≡ f
  not_alike_lem e f u l = go (old-or-made e u) (old-or-made f (sym (ap free_edge l) ∙ u))
    where
      go : OldOrMade e → OldOrMade f → e ≡ f
      go (inr like) b = sym (like f l)
      go (inl a) (inr like) = like e (sym l)
      go (inl a) (inl b) = sound.not_alike e f (sym (ap free_edge a) ∙ u) (sym a ∙ l ∙ b)

  a-table : (t : ℕ) (es : List Entry) → table_at j t ≡ used es → GoodTable j.K es
  a-table t es q = go (c.tables t es q)
    where
      go : (table_at i t ≡ used es) ⊎ GoodTable j.K es → GoodTable j.K es
      go (inl e) = rw (ap (λ (l : Limits). l.K) c.same_limits) (sound.tables t es e)
      go (inr g) = g

  change-sound : Sound j
  change-sound =
      record {
        shapes = a-shape;
        tables = a-table;
        users = c.users;
        edges = an_edge;
        not_alike = not_alike_lem;
        free_shapes = a_free_shape;
        free_edges = a_free_edge;
      }

  -- ## What stays is kept

  made_by_stays : (n : ℕ) → P n → is_child (shape_at i n) ≡ true → made_by j n ≡ made_by i n
  made_by_stays n p r =
      let k = (was n p).child r in
      let place = used_place i n (c.staying n p).was_used in
      let its = (c.staying n p).edges k.edge k.leads_here in
      rw (
        edge_to j n place k.edge (rw its k.leads_here) (λ e h. k.only_edge e (edge_stays n p e h)),
        edge_to i n place k.edge k.leads_here k.only_edge,
        its,
        is_again n p,
      )

  -- Of a shape with transitions: its previous stays, with one less.
  record Before (n count : ℕ) : Type 0 where
    is_of_child : is_child (shape_at i n) ≡ true
    its_previous : P (shape_at i n).previous
    one_less : (shape_at i (shape_at i n).previous).transitions ≡ count

  before : (n count : ℕ) → P n → (shape_at i n).transitions ≡ suc count → Before n count
  before n count p e =
      let w = was n p in
      let r = transitions_child w.words (λ z. absurd (omega arith)) in
      let more = (w.child r).one_more in
      record { is_of_child = r; its_previous = (c.staying n p).previous r; one_less = omega arith }

  previous_same : (n : ℕ) → P n → (shape_at j n).previous ≡ (shape_at i n).previous
  previous_same n p = ap (λ (s : Shape). s.previous) (c.staying n p).same_core

  trail_stays : (count n : ℕ) → P n → (shape_at i n).transitions ≡ count → trail_of count j n ≡ trail_of count i n
  trail_stays zero n p e = refl
  trail_stays (suc count) n p e =
      let b = before n count p e in
      let rest = trail_stays count (shape_at i n).previous b.its_previous b.one_less in
      rw (previous_same n p, rest, made_by_stays n p b.is_of_child)

  back_stays : (count n : ℕ) → P n → (shape_at i n).transitions ≡ count
      → backward count j n ≡ backward count i n
  back_stays zero n p e = refl
  back_stays (suc count) n p e =
      let b = before n count p e in
      rw (previous_same n p, back_stays count (shape_at i n).previous b.its_previous b.one_less)

  change-kept : (n : ℕ) → P n → Kept i j n
  unfolding trail chain
  change-kept n p =
      let count : (shape_at j n).transitions ≡ (shape_at i n).transitions
      = ap (λ (s : Shape). s.transitions) (c.staying n p).same_core in
      record {
        same_core = (c.staying n p).same_core;
        same_entries = rw (is_again n p) (entries_stay n p);
        same_trail = rw count (trail_stays (shape_at i n).transitions n p refl);
        same_chain = rw count (back_stays (shape_at i n).transitions n p refl);
      }

-- ## Kept

kept_self : (i : Model) (n : ℕ) → Kept i i n
kept_self i n = record { same_core = refl; same_entries = refl; same_trail = refl; same_chain = refl }

kept_again : {i j k : Model} {n : ℕ} → Kept i j n → Kept j k n → Kept i k n
kept_again a b =
    record {
      same_core = b.same_core ∙ a.same_core;
      same_entries = b.same_entries ∙ a.same_entries;
      same_trail = b.same_trail ∙ a.same_trail;
      same_chain = b.same_chain ∙ a.same_chain;
    }

pub kept-root : {i j : Model} {n : ℕ} → Kept i j n → root j n ≡ root i n
unfolding root
kept-root {n = n} k = ap (λ (ns : List ℕ). last ns n) k.same_chain

-- j is sound, has the limits of i and keeps each shape that P holds of.
pub record Keeps (i j : Model) (P : ℕ → Type 0) : Type 0 where
  pub is_sound : Sound j
  pub same_limits : limits_of j ≡ limits_of i
  pub keeps : (n : ℕ) → P n → Kept i j n

pub change_keeps : {i j : Model} {P : ℕ → Type 0} → Sound i → Change i j P → Keeps i j P
change_keeps {i} {j} {P} s c =
    record {
      is_sound = change-sound i j P s c;
      same_limits = c.same_limits;
      keeps = change-kept i j P s c;
    }

pub keeps_self : {i : Model} {P : ℕ → Type 0} → Sound i → Keeps i i P
keeps_self {i} s = record { is_sound = s; same_limits = refl; keeps = λ n p. kept_self i n }

-- Fewer shapes are kept too.
pub keeps_fewer : {i j : Model} {P Q : ℕ → Type 0} → ((n : ℕ) → Q n → P n) → Keeps i j P → Keeps i j Q
keeps_fewer h a =
    record { is_sound = a.is_sound; same_limits = a.same_limits; keeps = λ n q. a.keeps n (h n q) }

-- One change after another: each shape that is kept at first is kept by the next.
pub keeps_again : {i j k : Model} {P Q : ℕ → Type 0} → Keeps i j P → ((n : ℕ) → P n → Kept i j n → Q n)
    → Keeps j k Q → Keeps i k P
keeps_again a h b =
    record {
      is_sound = b.is_sound;
      same_limits = b.same_limits ∙ a.same_limits;
      keeps = λ n p. kept_again (a.keeps n p) (b.keeps n (h n p (a.keeps n p)));
    }

pub kept_used : {i j : Model} {n : ℕ} → Used i n → Kept i j n → Used j n
kept_used u k = ap free_shape k.same_core ∙ u

pub kept-shared : {i j : Model} {n : ℕ} → shared (shape_at i n) ≡ true → Kept i j n
    → shared (shape_at j n) ≡ true
kept-shared h k = ap shared k.same_core ∙ h

-- ## What is the same in both

pub longer_same : (t : Table) → Longer t t
longer_same t = record { in_use = λ u. u; begins = take-length (entries_of t) }

module _ (i j : Model) (sound : Sound i) where
  pub previous_used : (n : ℕ) → Used i n → is_child (shape_at i n) ≡ true → Used i (shape_at i n).previous
  previous_used n u r =
      shared_used (shape_at i (shape_at i n).previous) ((sound.shapes n u).child r).previous_shared

  -- Where every shared shape stays, an edge that is the same is kept, or there is none.
  pub same_edge : {P : ℕ → Type 0} → ((n : ℕ) → shared (shape_at i n) ≡ true → P n)
      → (e : ℕ) → edge_at j e ≡ edge_at i e → EdgeCase i j P e
  same_edge {P} h e q = go (either (free_edge (edge_at i e)))
    where
      go : Decided (free_edge (edge_at i e)) → EdgeCase i j P e
      go (inl f) = vacant (q ∙ sound.free_edges e f)
      go (inr u) =
          let s = sound.edges e u in
          let x = edge_at i e in
          kept q (h x.parent s.parent_shared) (λ ne. h x.child (s.child ne).is_shared)

  -- Where every shape in use stays, one that was free is free, or made.
  pub old-shape : (n : ℕ) → (free_shape (shape_at i n) ≡ true → shape_at j n ≡ shape_at i n)
      → ShapeCase i j (Used i) n
  old-shape n h = go (either (free_shape (shape_at i n)))
    where
      go : Decided (free_shape (shape_at i n)) → ShapeCase i j (Used i) n
      go (inl f) = vacant (h f ∙ sound.free_shapes n f)
      go (inr u) = stays u

  -- A table's user that stays uses it still.
  pub same_user : ((n : ℕ) → Used i n → core (shape_at j n) ≡ core (shape_at i n))
      → (t : ℕ) → free_table (table_at i t) ≡ false → User j t
  same_user h t u =
      let k = sound.users t u in
      let same = h k.place k.is_used in
      record {
        place = k.place;
        is_used = ap free_shape same ∙ k.is_used;
        its = ap (λ (s : Shape). s.table) same ∙ k.its;
      }
