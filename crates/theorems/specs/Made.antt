-- How a shared shape came from its previous: the one edge to it names the step, and its entries and prototype
-- are the previous's with that step applied. A shared shape without transitions is a root.
-- Assumes nothing.
use Rattle.std.specs.Prelude.{Bool, true, false, ◌&&◌, List, [], ◌∷◌, ◌≡◌, refl, ℕ, suc, ◌+◌, ◌≤◌, eqb, length}
use Rattle.std.proofs.Common.{inl, inr, sym, ◌∙◌, ap, ap₂, arith, eqb-true, ne_eqb, length-take-le}
use Rattle.std.proofs.lemmas.Bool.{eqb-false, not-true}
use Rattle.std.specs.Prelude.{if◌then◌else◌}
use Rattle.slot.specs.Attributes.{good_attributes, width}
use Rattle.store.specs.Model.{Model, free_edge, shape_at, table_at, edge_at}
use Rattle.store.specs.ListLaws.{and_both, both-and, Decided, either}
use Rattle.store.specs.declared.Shape.{Shape}
use Rattle.store.specs.declared.Entry.{Entry}
use Rattle.store.specs.declared.Edge.{Edge}
use Rattle.rules.specs.Numbers.{good_key}
use Rattle.rules.specs.Shapes.{entry, has, pairs, shared, is_root, table_of, entries}
use Rattle.rules.specs.Steps.{Step, insert, configure, prototype, step_kind, edge_of, edge_kind, may_step}
use Rattle.rules.specs.Steps.{step_entries, step_prototype}
use Rattle.rules.specs.Sound.{slots_from, good_entries, step_of, good_label}
use Rattle.rules.specs.Sweep.{deadened}
use Rattle.rules.specs.Trails.{made_by}
use Rattle.rules.specs.InUse.{shared_used}
use Rattle.theorems.specs.Facts.{Sound, used_place, used_table, transitions_child}
use Rattle.theorems.specs.Facts.{Used, GoodTable}
use Rattle.theorems.specs.FactsSound.{its-edge}
use Rattle.theorems.specs.Frame.{Kept}
use Rattle.theorems.specs.Entries.{good_slots, good_take, good_appended, good_configured, led_to}

-- The shape at a place is shared, and so in use.
abbrev pub SharedAt : Model → ℕ → Type 0
SharedAt m n = shared (shape_at m n) ≡ true

abbrev pub entries_at : Model → ℕ → List Entry
entries_at m n = entries m (shape_at m n)

abbrev pub prototype_at : Model → ℕ → ℕ
prototype_at m n = (shape_at m n).prototype

abbrev pub previous_at : Model → ℕ → ℕ
previous_at m n = (shape_at m n).previous

abbrev pub transitions_at : Model → ℕ → ℕ
transitions_at m n = (shape_at m n).transitions

-- What a shape holds: its entries, which are its keys with their attributes and slots, and its prototype.
pub record Contents (m : Model) (n : ℕ) (es : List Entry) (p : ℕ) : Type 0 where
  pub its_entries : entries_at m n ≡ es
  pub its_prototype : prototype_at m n ≡ p

pub kept_contents : {i j : Model} {n : ℕ} {es : List Entry} {p : ℕ} → Kept i j n → Contents i n es p
    → Contents j n es p
kept_contents k c =
    record {
      its_entries = k.same_entries ∙ c.its_entries;
      its_prototype = ap (λ (s : Shape). s.prototype) k.same_core ∙ c.its_prototype;
    }

-- A step's key is good and its attributes are up to 31.
abbrev pub good_step : Step → Bool
good_step (insert k a) = good_key k && good_attributes a
good_step (configure k a) = good_key k && good_attributes a
good_step (prototype p) = true

-- ## Entries

same_pairs_lem : (n : ℕ) (es fs : List Entry) → slots_from n es ≡ true → slots_from n fs ≡ true
    → pairs es ≡ pairs fs → es ≡ fs
same_pairs_lem n [] [] g h e = refl
same_pairs_lem n [] (f ∷ fs) g h e = let z : ◌≡◌ {A = ℕ} 0 1 = cc in absurd (omega arith)
same_pairs_lem n (e ∷ es) [] g h q = let z : ◌≡◌ {A = ℕ} 0 1 = cc in absurd (omega arith)
same_pairs_lem n (e ∷ es) (f ∷ fs) g h q =
    let (first, rest) = and_both (eqb e.slot.0 n) g in
    let (first', rest') = and_both (eqb f.slot.0 n) h in
    let key : e.key ≡ f.key = cc in
    let attributes : e.attributes ≡ f.attributes = cc in
    let slot = eqb-true e.slot.0 n first ∙ sym (eqb-true f.slot.0 n first') in
    let others : pairs es ≡ pairs fs = cc in
    let later = same_pairs_lem (n + width e.attributes) es fs rest (rw attributes rest') others in
    λ j. entry (key j) (attributes j) (slot j) ∷ later j

-- Keys and attributes tell the slots, and so the entries.
same_good : (es fs : List Entry) → good_entries es ≡ true → good_entries fs ≡ true
    → pairs es ≡ pairs fs → es ≡ fs
same_good es fs g h e = same_pairs_lem 0 es fs (good_slots es g) (good_slots fs h) e

-- A good step that may be taken leaves good entries.
good_stepped : (t : Step) (es : List Entry) → good_entries es ≡ true → good_step t ≡ true
    → may_step t es ≡ true → good_entries (step_entries t es) ≡ true
good_stepped (insert k a) es h g may =
    let (key, attributes) = and_both (good_key k) g in
    good_appended es k a h key attributes (not-true (has k es) may)
good_stepped (configure k a) es h g may =
    good_configured es k a h (and_both (good_key k) g).1 (and_both (has k es) may).1
good_stepped (prototype p) es h g may = h

-- ## The edge to a shape

-- What an edge and its child's step kind say together.
record Names (kind : ℕ) (e : Edge) (t : Step) : Type 0 where
  its_kind : step_kind t ≡ kind
  good : good_step t ≡ true
  its_edge : deadened e ≡ edge_of e.parent t 0

names : (kind : ℕ) (e : Edge) (es : List Entry) → kind ≤ 2 → edge_kind (step_of kind e) ≡ e.kind
    → good_label es e ≡ true → Names kind e (step_of kind e)
names kind e es low fits label = go (eqb kind 0) refl (eqb kind 1) refl fits
  where
    with_kind : (kind attributes : ℕ) → Edge
    with_kind x a = record { parent = e.parent; kind = x; label = e.label; attributes = a; child = 0 }

    property : 0 ≡ e.kind → (good_key e.label && good_attributes e.attributes) ≡ true
    property q = (and_both (good_key e.label && good_attributes e.attributes) (rw (← q) at label)).0

    step_by : (is_insert is_configure : Bool) → Step
    step_by b c =
        if b then insert e.label e.attributes
        else if c then configure e.label e.attributes
        else prototype e.label

    go : (b : Bool) → eqb kind 0 ≡ b → (c : Bool) → eqb kind 1 ≡ c
        → edge_kind (step_by b c) ≡ e.kind → Names kind e (step_by b c)
    go true p c q f =
        record {
          its_kind = sym (eqb-true kind 0 p);
          good = property f;
          its_edge = ap (λ (x : ℕ). with_kind x e.attributes) (sym f);
        }
    go false p true q f =
        record {
          its_kind = sym (eqb-true kind 1 q);
          good = property f;
          its_edge = ap (λ (x : ℕ). with_kind x e.attributes) (sym f);
        }
    go false p false q f =
        let none : e.attributes ≡ 0 = eqb-true e.attributes 0 (rw (← f) at label) in
        let not_insert = eqb-false kind 0 p in
        let not_configure = eqb-false kind 1 q in
        record {
          its_kind = omega arith;
          good = refl;
          its_edge = ap₂ with_kind (sym f) none;
        }

-- ## A shape and its previous

-- Of a shared shape with one transition more than count: the step t made it.
pub record Made (m : Model) (n count : ℕ) (t : Step) : Type 0 where
  pub previous_shared : SharedAt m (previous_at m n)
  pub one_less : transitions_at m (previous_at m n) ≡ count
  pub its_kind : step_kind t ≡ (shape_at m n).step
  pub good : good_step t ≡ true
  pub may : may_step t (entries_at m (previous_at m n)) ≡ true
  pub its_entries : entries_at m n ≡ step_entries t (entries_at m (previous_at m n))
  pub its_prototype : prototype_at m n ≡ step_prototype t (prototype_at m (previous_at m n))
  -- the place of the edge to it
  pub edge : ℕ
  pub edge_used : free_edge (edge_at m edge) ≡ false
  pub leads_here : (edge_at m edge).child ≡ n
  pub its_edge : deadened (edge_at m edge) ≡ edge_of (previous_at m n) t 0

-- Of a shared shape without transitions.
pub record AtRoot (m : Model) (n : ℕ) : Type 0 where
  pub is_a_root : is_root (shape_at m n) ≡ true
  pub no_entries : entries_at m n ≡ []
  pub no_prototype : prototype_at m n ≡ 0

module _ (m : Model) (sound : Sound m) where
  -- A shape in use has good entries, and as many as its property count says.
  pub own_count : (n : ℕ) → Used m n → length (entries_at m n) ≡ (shape_at m n).properties
  own_count n u =
      length-take-le (shape_at m n).properties (table_of m (shape_at m n)) (sound.shapes n u).count_fits

  pub own_good : (n : ℕ) → Used m n → GoodTable m.K (entries_at m n)
  own_good n u =
      let s = shape_at m n in
      let its = used_table (table_at m s.table) (sound.shapes n u).table_used in
      let whole = sound.tables s.table (table_of m s) its in
      let fits = (sound.shapes n u).count_fits in
      let room = whole.room in
      let count = own_count n u in
      record { good = good_take s.properties (table_of m s) whole.good; room = omega arith }

  pub entries_good : (n : ℕ) → SharedAt m n → good_entries (entries_at m n) ≡ true
  entries_good n h = (own_good n (shared_used (shape_at m n) h)).good

  pub made : (n count : ℕ) → SharedAt m n → transitions_at m n ≡ suc count
      → Made m n count (made_by m n)
  made n count h more =
      let s = shape_at m n in
      let u = shared_used s h in
      let w = sound.shapes n u in
      let child = transitions_child w.words (λ z. absurd (omega arith)) in
      let k = w.child child in
      let e = edge_at m k.edge in
      let t = step_of s.step e in
      let es = entries_at m s.previous in
      let before = shared_used (shape_at m s.previous) k.previous_shared in
      let in_use : free_edge e ≡ false
      = rw k.from_previous (ne_eqb s.previous 0 (used_place m s.previous before)) in
      let x = sound.edges k.edge in_use in
      let leads_to = x.child (λ z. used_place m n u (sym k.leads_here ∙ z)) in
      let fits = rw k.leads_here at leads_to.kind_fits in
      let named = names s.step e (entries_at m e.parent) w.words.step fits x.label in
      let l = led_to t es (prototype_at m s.previous) (entries_at m n) s.prototype k.stepped in
      let good = good_stepped t es (entries_good s.previous k.previous_shared) named.good l.may in
      let less = k.one_more in
      rw (its-edge m sound n u child)
      record {
        previous_shared = k.previous_shared;
        one_less = omega arith;
        its_kind = named.its_kind;
        good = named.good;
        may = l.may;
        its_entries = same_good (entries_at m n) (step_entries t es) (entries_good n h) good l.same_pairs;
        its_prototype = l.its_prototype;
        edge = k.edge;
        edge_used = in_use;
        leads_here = k.leads_here;
        its_edge = named.its_edge ∙ ap (λ (p : ℕ). edge_of p t 0) k.from_previous;
      }

  pub at-root : (n : ℕ) → SharedAt m n → transitions_at m n ≡ 0 → AtRoot m n
  at-root n h none = go (either (eqb (previous_at m n) 0))
    where
      go : Decided (eqb (previous_at m n) 0) → AtRoot m n
      go (inl q) =
          let root = both-and h q in
          let z = (sound.shapes n (shared_used (shape_at m n) h)).words.root root in
          record { is_a_root = root; no_entries = rw z.properties; no_prototype = z.prototype }
      go (inr q) =
          let k = (sound.shapes n (shared_used (shape_at m n) h)).child (both-and h (rw q)) in
          absurd (omega (arith, k.one_more))
