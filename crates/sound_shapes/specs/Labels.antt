-- What a key that is held decides, and what the ways out of an edge's test answer.
-- Assumes nothing.
use Rattle.std.specs.Prelude.{◌≡◌, refl, Bool, false, ◌&&◌, ◌||◌, List, [], ◌∷◌, ℕ, ◌≤◌, ◌<◌, length, get_or, Some}
use Rattle.std.proofs.Common.{sym, ◌∙◌, arith, get_or-take}
use Rattle.std.proofs.Math.Bool.{true, not}
use borrow.Author.Tests.{eqb-true, eq-eqb, ne_eqb, not-true}
use Rattle.std.proofs.Math.Dec.{eqb}
use Rattle.std.specs.Prelude.{if◌then◌else◌}
use Rattle.slot.specs.Attributes.{same_width}
use Rattle.slot.specs.declared.KeyPosition.{KeyPosition}
use Rattle.store.specs.Lists.{at, keep, every}
use Rattle.store.specs.Model.{Model, no_entry, no_edge, shape_at, edge_at}
use Rattle.store.specs.Image.{Place}
use Rattle.store.specs.ListLaws.{and_both, both-and, or_then, not_then, every-place, every_then}
use Rattle.store.specs.declared.Shape.{Shape}
use Rattle.store.specs.declared.Entry.{Entry}
use Rattle.store.specs.declared.Edge.{Edge}
use Rattle.rules.specs.Numbers.{good_key}
use Rattle.rules.specs.Shapes.{has, shared, is_child, table_of, entries}
use Rattle.rules.specs.Steps.{Step, insert, configure, prototype, edge_kind, may_step}
use Rattle.rules.specs.Sound.{in_range, tables_good, step_of, leads, children_stepped, good_child}
use Rattle.rules.specs.InUse.{EdgeRanges, each-shape, edge-ranges, shared_used, Tabled, tabled}
use Rattle.key_position.specs.Positions.{position_of, Stands, stands_at}
use Rattle.sound_shapes.specs.Keys.{good_entries_lem, tabled_long}
use Rattle.sound_shapes.specs.Tests.{width_fits, LiveFits, Keyed}
use Rattle.sound_shapes.specs.Tests.{TablesKnown}

-- ## The width of a key that is held

module _ (m : Model) (s : Shape) (known : Keyed m s) where
  module _ (k : ℕ) {p : KeyPosition} (there : position_of k (entries m s) ≡ Some p) where
    key_stands : Stands k (entries m s) p.0
    key_stands = stands_at k (entries m s) there

    pub held-inside : p.0 < s.properties
    held-inside = rw (← (tabled_long known.tabled)) key_stands.inside

    pub held-answer : (absent : Bool) (a : ℕ) {e : Entry} {r : Bool} → e ≡ get_or (table_of m s) p.0 no_entry
        → r ≡ same_width e.attributes a → r ≡ width_fits absent k a (entries m s)
    held-answer absent a read answer =
        let its = get_or-take s.properties (table_of m s) p.0 no_entry held-inside in
        rw (key_stands.held, key_stands.attributes, its, ← read) answer

-- ## What a parent has

pub keyed : {m : Model} {s : Shape} → tables_good m ≡ true → Tabled m s → Keyed m s
keyed {m} {s} good its =
    record {
      tabled = its;
      good = every_then (λ x p. (and_both (good_key x.key) p).1) (table_of m s) (good_entries_lem m good s).1;
    }

module _
    (m : Model)
    (known : TablesKnown m)
    (n : ℕ)
    {s : Shape}
    (read : s ≡ shape_at m n)
    (state : s.state ≡ 1)
  where
    pub parent_keyed : Keyed m s
    parent_keyed = keyed known.good (tabled m known.in_use known.counts n read (rw state refl))

-- ## What a step has tested

-- Where all edges that are kept pass a test, one that is kept does.
module _ (test kept : Edge → Bool) where
  kept_pass : (es : List Edge) → every test (keep kept es) ≡ every (λ e. not (kept e) || test e) es
  kept_pass [] = refl
  kept_pass (e ∷ es) = go (kept e) (kept_pass es)
    where
      go : (b : Bool) {more : Bool} → every test (keep kept es) ≡ more
          → every test (if b then e ∷ keep kept es else keep kept es) ≡ ((not b || test e) && more)
      go true q = rw q
      go false q = q

  kept-passes : (es : List Edge) (n : ℕ) → every test (keep kept es) ≡ true → kept no_edge ≡ false
      → {e : Edge} → e ≡ at es n no_edge → kept e ≡ true → test e ≡ true
  kept-passes es n h out {e} read its =
      let each = sym (kept_pass es) ∙ h in
      not_then (kept e) (rw read (every-place no_edge (λ e. not (kept e) || test e) es (rw out) each n)) its

step_fits : (kind : ℕ) (e : Edge) (es : List Entry) → edge_kind (step_of kind e) ≡ 0
    → may_step (step_of kind e) es ≡ true → width_fits true e.label e.attributes es ≡ true
step_fits kind e es = go (eqb kind 0) (eqb kind 1)
  where
    step_if : Bool → Bool → Step
    step_if b c =
        if b then insert e.label e.attributes
        else if c then configure e.label e.attributes
        else prototype e.label

    go : (b c : Bool) → edge_kind (step_if b c) ≡ 0 → may_step (step_if b c) es ≡ true
        → width_fits true e.label e.attributes es ≡ true
    go true c k may = rw (not-true (has e.label es) may)
    go false true k may = let (held, wide) = and_both (has e.label es) may in rw (held, wide)
    go false false k may = absurd (omega (arith, k))

-- ## Ways out

module _ (m : Model) (n : ℕ) {e : Edge} (read : e ≡ edge_at m n) where
  module _ (in_use : e.parent ≡ 0 → ⊥) where
    its-ranges : in_range m ≡ true → EdgeRanges m e
    its-ranges known = rw read (edge-ranges m known n (rw (← read) (ne_eqb e.parent 0 in_use)))

    pub parent_place : in_range m ≡ true → Place (length m.shapes) e.parent
    parent_place known = record { low = omega (arith, in_use); high = (its-ranges known).parent }

    pub child_in_range : in_range m ≡ true → e.child ≤ length m.shapes
    child_in_range known = (its-ranges known).child

    module _ {p : Shape} (parent : p ≡ shape_at m e.parent) where
      module _ (child : good_child (shape_at m e.child) e ≡ true) where
        -- The step to the child has tested the width.
        pub live_fits : children_stepped m ≡ true → LiveFits (entries m p) e
        unfolding children_stepped edge_at
        live_fits stepped some property =
            let s = shape_at m e.child in
            let q = shape_at m s.previous in
            let t = step_of s.step e in
            let its = or_then (eqb e.child 0) child (ne_eqb e.child 0 some) in
            let (known, kind) = and_both (shared s && eqb s.previous e.parent) its in
            let (is_shared, back) = and_both (shared s) known in
            let from : s.previous ≡ e.parent = eqb-true s.previous e.parent back in
            let later : not (eqb s.previous 0) ≡ true = rw (from, ne_eqb e.parent 0 in_use) in
            let test = each-shape m _ stepped e.child (shared_used s is_shared) in
            let led =
            kept-passes
            (λ f. leads (step_of s.step f) (entries m q) q.prototype (entries m s) s.prototype)
            (λ f. eqb f.child e.child) m.edges n
            (not_then (is_child s) test (both-and is_shared later)) (ne_eqb 0 e.child (λ z. some (sym z)))
            read (eq-eqb e.child e.child refl) in
            let (allowed, _) = and_both (may_step t (entries m q) && _) led in
            step_fits s.step e (entries m p) (eqb-true (edge_kind t) e.kind kind ∙ property)
            (rw (from, ← parent) at (and_both (may_step t (entries m q)) allowed).0)
