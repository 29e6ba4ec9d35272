-- A pass over the records of one kind: each is replaced in turn. One law serves shapes, tables and edges.
-- Assumes nothing.
use Rattle.std.specs.Prelude.{List, ◌++◌, ◌≡◌, refl, ℕ, zero, suc, ◌+◌, ◌≤◌, ◌<◌, length, get_or, set, take, drop}
use Rattle.std.proofs.Common.{append-nil, sym, ◌∙◌, ap, add-one, arith, drop_of_length-le, take_all, take-suc, drop-cons, length-take-le}
use Rattle.std.proofs.Math.Seq.{append_snoc}
use Rattle.std.proofs.lemmas.List.{set_at, get_or_at, set-get_or}
use Rattle.store.specs.Lists.{at, put}
use Rattle.store.specs.Model.{Table, Model, free, no_shape, no_edge}
use Rattle.store.specs.Layout.{parse}
use Rattle.store.specs.Image.{Formed, Becomes, unchanged, and_then}
use Rattle.store.specs.declared.Shape.{Shape}
use Rattle.store.specs.declared.Edge.{Edge}

-- ## One kind of records of a model

pub record Kind {A : Type 0} (nothing : A) : Type 0 where
  pub list : Model → List A
  pub having : Model → List A → Model
  pub reads : (m : Model) (xs : List A) → list (having m xs) ≡ xs
  pub again : (m : Model) (xs ys : List A) → having (having m xs) ys ≡ having m ys
  pub same : (m : Model) → having m (list m) ≡ m

abbrev pub with_shapes : Model → List Shape → Model
with_shapes m xs = record { K = m.K; shapes = xs; tables = m.tables; edges = m.edges }

abbrev pub with_tables : Model → List Table → Model
with_tables m xs = record { K = m.K; shapes = m.shapes; tables = xs; edges = m.edges }

abbrev pub with_edges : Model → List Edge → Model
with_edges m xs = record { K = m.K; shapes = m.shapes; tables = m.tables; edges = xs }

abbrev pub of_shapes : Kind no_shape
of_shapes =
    record {
      list = λ m. m.shapes;
      having = with_shapes;
      reads = λ m xs. refl;
      again = λ m xs ys. refl;
      same = λ m. refl;
    }

abbrev pub of_tables : Kind free
of_tables =
    record {
      list = λ m. m.tables;
      having = with_tables;
      reads = λ m xs. refl;
      again = λ m xs ys. refl;
      same = λ m. refl;
    }

abbrev pub of_edges : Kind no_edge
of_edges =
    record {
      list = λ m. m.edges;
      having = with_edges;
      reads = λ m xs. refl;
      again = λ m xs ys. refl;
      same = λ m. refl;
    }

-- ## A pass

-- The first so many are new.
abbrev midway : {A : Type 0} → (done : ℕ) (old new : List A) → List A
midway done old new = take done new ++ drop done old

module _ {A : Type 0} (d : A) (old new : List A) (same : length new ≡ length old) (i : ℕ) (l : i < length old)
  where
    front : length (take i new) ≡ i
    front = length-take-le i new (omega arith)

    midway-at : get_or (midway i old new) i d ≡ get_or old i d
    midway-at = rw (drop-cons old i d l) (get_or_at (take i new) (get_or old i d) (drop (suc i) old) d i front)

    midway-next : set (midway i old new) i (get_or new i d) ≡ midway (suc i) old new
    midway-next =
        let there = set_at (take i new) (get_or old i d) (drop (suc i) old) (get_or new i d) i front in
        rw (drop-cons old i d l, there, take-suc new i d (omega arith))
        (sym (append_snoc (take i new) (get_or new i d) (drop (suc i) old)))

module _ {A : Type 0} {d : A} (kind : Kind d) where
  pub record Pass (new : List A) (before now : List ℕ) (done : ℕ) : Type 0 where
    pub within : done ≤ length (kind.list (parse before))
    pub long : length new ≡ length (kind.list (parse before))
    pub become : Becomes before now
        (kind.having (parse before) (midway done (kind.list (parse before)) new))

  pub pass_start : {ws : List ℕ} (new : List A) → Formed ws → length new ≡ length (kind.list (parse ws))
      → Pass new ws ws 0
  pass_start {ws} new f long =
      record { within = omega arith; long = long; become = rw (kind.same (parse ws)) (unchanged f) }

  module _ {new : List A} {before now : List ℕ} {i : ℕ} (p : Pass new before now i) where
    -- The record in turn is replaced by what `each` makes of it.
    pub pass_next : {after : List ℕ} (each : A → A) → i < length (kind.list (parse before))
        → (get_or new i d ≡ each (get_or (kind.list (parse before)) i d))
        → Becomes now after
        (kind.having (parse now)
        (put (kind.list (parse now)) (i + 1) (each (at (kind.list (parse now)) (i + 1) d))))
        → Pass new before after (i + 1)
    pass_next {after} each l says b =
        record { within = omega arith; long = p.long; become = rw (← made) (and_then p.become b) }
      where
        m : Model
        m = parse before

        old : List A
        old = kind.list m

        now-has : kind.list (parse now) ≡ midway i old new
        now-has = ap kind.list p.become.parsed ∙ kind.reads m (midway i old new)

        made : kind.having (parse now)
            (put (kind.list (parse now)) (i + 1) (each (at (kind.list (parse now)) (i + 1) d)))
            ≡ kind.having m (midway (i + 1) old new)
        made =
            rw (now-has, add-one, midway-at d old new p.long i l, ← says)
            (rw (midway-next d old new p.long i l, p.become.parsed)
            (kind.again m (midway i old new) (midway (suc i) old new)))

    pub pass_end : length (kind.list (parse before)) ≤ i
        → Becomes before now (kind.having (parse before) new)
    pass_end l =
        let long = p.long in
        let all = take_all i new (omega arith) in
        let none = drop_of_length-le (kind.list (parse before)) l in
        rw (all, none, append-nil) at p.become

  -- A record that stays.
  pub stays : {ws : List ℕ} (n : ℕ) → Formed ws
      → Becomes ws ws
      (kind.having (parse ws) (put (kind.list (parse ws)) n (at (kind.list (parse ws)) n d)))
  stays {ws} zero f = rw (kind.same (parse ws)) (unchanged f)
  stays {ws} (suc n) f = rw (set-get_or, kind.same (parse ws)) (unchanged f)
