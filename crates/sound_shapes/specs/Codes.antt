-- A code for each edge: edges have the same code exactly when they agree.
-- Assumes nothing.
use Rattle.std.specs.Prelude.{◌≡◌, refl, Bool, true, false, ◌&&◌, ◌||◌, not, List, [], ◌∷◌, ◌⊎◌, ◌≢◌, ℕ, zero, suc, ◌+◌, ◌*◌, ◌/◌, ◌≤◌, ◌<◌, eqb, length, get_or}
use Rattle.std.proofs.Common.{sym, ap, ◌∙◌, true≢false, inl, inr, arith, eqb-true, eq-eqb, ne_eqb}
use Rattle.std.proofs.Math.Nat.{mul-add-div_right, div-eq_of_lt}
use Rattle.std.specs.Prelude.{if◌then◌else◌}
use Rattle.slot.specs.Attributes.{most_stored}
use Rattle.store.specs.Lists.{any, every, zeros}
use Rattle.store.specs.ListLaws.{and_both, every-place}
use Rattle.store.specs.Scans.{edge-next}
use Rattle.store.specs.PlaceLaws.{same?}
use Rattle.store.specs.Layout.{shape_words, edge_words}
use Rattle.store.specs.Model.{Model, no_edge, free_shape, free_edge, shape_at, edge_at}
use Rattle.store.specs.declared.Edge.{Edge}
use Rattle.rules.specs.Shapes.{shared, entries}
use Rattle.rules.specs.Steps.{alike}
use Rattle.rules.specs.Sound.{distinct, no_two_alike, edges_differ, in_range, free_zero, edges_good, good_label}
use Rattle.rules.specs.InUse.{edge-ranges, each-edge, label_attributes}

-- ## Definitions

-- What the code leaves room for.
pub record Coded (e : Edge) : Type 0 where
  pub parents : e.parent ≤ 65535
  pub kinds : e.kind ≤ 1
  pub attributes : e.attributes ≤ most_stored

-- Parent, kind, label and attributes side by side. A free edge has its place for its label.
abbrev pub edge_code : (place : ℕ) → Edge → ℕ
edge_code place e =
    (((if free_edge e then place else e.label) * 65536 + e.parent) * 2 + e.kind) * 32 + e.attributes

abbrev pub edge_codes : (place : ℕ) → List Edge → List ℕ
edge_codes place [] = []
edge_codes place (e ∷ es) = edge_code place e ∷ edge_codes (suc place) es

-- What is tested before the edges are compared.
pub record EdgesKnown (m : Model) : Type 0 where
  pub ranges : in_range m ≡ true
  pub zero : free_zero m ≡ true
  pub good : edges_good m ≡ true

-- ## Codes side by side

pub length_codes : (place : ℕ) (es : List Edge) → length (edge_codes place es) ≡ length es
length_codes place [] = refl
length_codes place (e ∷ es) = ap suc (length_codes (suc place) es)

code_at : (place : ℕ) (es : List Edge) (k : ℕ) → k < length es
    → get_or (edge_codes place es) k 0 ≡ edge_code (place + k) (get_or es k no_edge)
code_at place [] k l = absurd (omega arith)
code_at place (e ∷ es) zero l = let here : place + 0 ≡ place = omega arith in rw here
code_at place (e ∷ es) (suc k) l =
    let there : suc place + k ≡ place + suc k = omega arith in
    rw (← there) (code_at (suc place) es k (omega arith))

pub code-next : (m : Model) (k : ℕ) {e : Edge} → k < length m.edges → e ≡ edge_at m (k + 1)
    → edge_code (k + 1) e ≡ get_or (edge_codes 1 m.edges) k 0
code-next m k l read =
    let place : 1 + k ≡ k + 1 = omega arith in
    rw (read, edge-next m k, ← place) (sym (code_at 1 m.edges k l))

-- What stands before the last digit.
same_front : (n : ℕ) {x y a b : ℕ} → a < n → b < n → x * n + a ≡ y * n + b → x ≡ y
same_front n {x} {y} {a} {b} la lb e = sym (front x a la) ∙ ap (λ (w : ℕ). w / n) e ∙ front y b lb
  where
    front : (x a : ℕ) → a < n → (x * n + a) / n ≡ x
    front x a l = mul-add-div_right (omega arith) x a ∙ rw (div-eq_of_lt l) (omega arith)

record Agree (labelled named : ℕ) (e f : Edge) : Type 0 where
  parent : e.parent ≡ f.parent
  kind : e.kind ≡ f.kind
  label : labelled ≡ named
  attributes : e.attributes ≡ f.attributes

abbrev joined : (label : ℕ) → Edge → ℕ
joined label e = ((label * 65536 + e.parent) * 2 + e.kind) * 32 + e.attributes

module _ {e f : Edge} (c : Coded e) (d : Coded f) where
  parts-agree : (l n : ℕ) → joined l e ≡ joined n f → Agree l n e f
  parts-agree l n q =
      let parents = c.parents in
      let others = d.parents in
      let kinds = c.kinds in
      let other_kinds = d.kinds in
      let attributes = c.attributes in
      let other_attributes = d.attributes in
      let front = same_front 32 (omega arith) (omega arith) q in
      let more = same_front 2 (omega arith) (omega arith) front in
      let label = same_front 65536 (omega arith) (omega arith) more in
      record {
        parent = omega (arith, more, label);
        kind = omega (arith, front, more);
        label = label;
        attributes = omega (arith, q, front);
      }

  -- Of two edges the first is in use.
  codes_tell : (i j : ℕ) → free_edge e ≡ false → eqb (edge_code i e) (edge_code j f) ≡ alike e f
  codes_tell i j used = go (same? (edge_code i e) (edge_code j f)) (free_edge f) refl (alike e f) refl
    where
      all_same : alike e f ≡ true → edge_code i e ≡ edge_code j f
      all_same q =
          let p = eqb e.parent f.parent in
          let k = eqb e.kind f.kind in
          let (most, attributes) = and_both (p && k && eqb e.label f.label) q in
          let (some, label) = and_both (p && k) most in
          let (parent, kind) = and_both p some in
          let same = eqb-true e.parent f.parent parent in
          let other : free_edge f ≡ false = rw (← same) used in
          rw (
            used,
            other,
            same,
            eqb-true e.kind f.kind kind,
            eqb-true e.label f.label label,
            eqb-true e.attributes f.attributes attributes,
          )

      go : (edge_code i e ≡ edge_code j f) ⊎ (edge_code i e ≢ edge_code j f)
          → (b : Bool) → free_edge f ≡ b → (r : Bool) → alike e f ≡ r
          → eqb (edge_code i e) (edge_code j f) ≡ alike e f
      go (inl q) true free r its =
          let parent = (parts-agree e.label j (rw (used, free) at q)).parent in
          absurd (true≢false (sym free ∙ rw (← parent) used))
      go (inl q) false other r its =
          let a = parts-agree e.label f.label (rw (used, other) at q) in
          rw (
            eq-eqb (edge_code i e) (edge_code j f) q,
            eq-eqb e.parent f.parent a.parent,
            eq-eqb e.kind f.kind a.kind,
            eq-eqb e.label f.label a.label,
            eq-eqb e.attributes f.attributes a.attributes,
          )
      go (inr ne) b is true its = absurd (ne (all_same its))
      go (inr ne) b is false its = ne_eqb (edge_code i e) (edge_code j f) ne ∙ sym its

  -- A free edge agrees with none after it.
  free_apart : (i j : ℕ) → i < j → free_edge e ≡ true → eqb (edge_code i e) (edge_code j f) ≡ false
  free_apart i j l free = ne_eqb (edge_code i e) (edge_code j f) (λ q. go q (free_edge f) refl)
    where
      go : edge_code i e ≡ edge_code j f → (b : Bool) → free_edge f ≡ b → ⊥
      go q true other = let same = (parts-agree i j (rw (free, other) at q)).label in absurd (omega arith)
      go q false used =
          let parent = (parts-agree i f.label (rw (free, used) at q)).parent in
          true≢false (sym free ∙ rw parent used)

-- ## The codes of all edges

abbrev EachCoded : List Edge → Type 0
EachCoded es = (k : ℕ) → Coded (get_or es k no_edge)

module _ {e : Edge} (c : Coded e) (i : ℕ) where
  alike-later : free_edge e ≡ false → (j : ℕ) (es : List Edge) → EachCoded es
      → any (eqb (edge_code i e)) (edge_codes j es) ≡ any (alike e) es
  alike-later used j [] h = refl
  alike-later used j (f ∷ es) h =
      rw (codes_tell c (h 0) i j used, alike-later used (suc j) es (λ k. h (suc k)))

  none-later : free_edge e ≡ true → (j : ℕ) (es : List Edge) → i < j → EachCoded es
      → any (eqb (edge_code i e)) (edge_codes j es) ≡ false
  none-later free j [] l h = refl
  none-later free j (f ∷ es) l h =
      rw (free_apart c (h 0) i j l free) (none-later free (suc j) es (omega arith) (λ k. h (suc k)))

codes_differ : (i : ℕ) (es : List Edge) → EachCoded es → distinct (edge_codes i es) ≡ no_two_alike es
codes_differ i [] h = refl
codes_differ i (e ∷ es) h = go (free_edge e) refl (codes_differ (suc i) es (λ k. h (suc k)))
  where
    go : (b : Bool) → free_edge e ≡ b → distinct (edge_codes (suc i) es) ≡ no_two_alike es
        → distinct (edge_codes i (e ∷ es)) ≡ no_two_alike (e ∷ es)
    go true free again =
        rw (none-later (h 0) i free (suc i) es (omega arith) (λ k. h (suc k)), free) again
    go false used again =
        rw (alike-later (h 0) i used (suc i) es (λ k. h (suc k)), used, again)

-- ## Edges of an image

zero-words : (e : Edge) → zeros (edge_words e) ≡ true → Coded e
zero-words e h =
    let zero = every-place 0 (eqb 0) (edge_words e) refl h in
    let parent = eqb-true 0 e.parent (zero 1) in
    let kind = eqb-true 0 e.kind (zero 2) in
    let attributes = eqb-true 0 e.attributes (zero 4) in
    record { parents = omega arith; kinds = omega arith; attributes = omega arith }

pub edge_coded : {m : Model} → length m.shapes ≤ 65535 → EdgesKnown m → (k : ℕ) → Coded (edge_at m k)
unfolding free_zero edges_good edge_at
edge_coded {m} few known k = go (free_edge (edge_at m k)) refl
  where
    go : (b : Bool) → free_edge (edge_at m k) ≡ b → Coded (edge_at m k)
    go true free =
        let zeroed = (and_both (every (λ s. not (free_shape s) || zeros (shape_words s)) m.shapes) known.zero).1 in
        zero-words (edge_at m k)
        (rw free at (every-place no_edge (λ e. not (free_edge e) || zeros (edge_words e)) m.edges refl zeroed k))
    go false used =
        let ranges = edge-ranges m known.ranges k used in
        let parent = ranges.parent in
        let p = shape_at m (edge_at m k).parent in
        let good = each-edge m _ known.good k used in
        let labelled = (and_both (shared p) (and_both (shared p && good_label (entries m p) (edge_at m k)) good).0).1 in
        record {
          parents = omega arith;
          kinds = ranges.kind;
          attributes = label_attributes (entries m p) (edge_at m k) labelled;
        }

pub edges-told : {m : Model} → length m.shapes ≤ 65535 → EdgesKnown m → {codes : List ℕ} {r : Bool}
    → codes ≡ edge_codes 1 m.edges → r ≡ distinct codes → r ≡ edges_differ m
unfolding edges_differ edge_at
edges-told {m} few known its e = e ∙ rw its (codes_differ 1 m.edges (λ k. edge_coded few known (suc k)))
