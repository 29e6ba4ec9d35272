-- A step of one child, entry by entry.
-- Assumes nothing.
use Rattle.std.specs.Prelude.{◌≡◌, refl, Bool, true, false, ◌&&◌, not, List, [], ◌∷◌, ◌++◌, map, ◌⊎◌, ◌≢◌, ℕ, zero, suc, ◌+◌, ◌/◌, ◌%◌, ◌≤◌, ◌<◌, eqb, length, get_or, take}
use Rattle.std.proofs.Common.{sym, ap, ◌∙◌, inl, inr, not-suc-le-zero, le_of_suc-le-suc, arith, eqb-true, ne_eqb, length-append, take-take, get_or-take, length-take-le}
use Rattle.std.proofs.Math.Bool.{and-true, and-false, and_assoc, or-true}
use Rattle.std.proofs.lemmas.Bool.{false≢true, not-true}
use Rattle.std.proofs.lemmas.List.{length-map}
use Rattle.std.specs.Prelude.{if◌then◌else◌}
use Rattle.slot.specs.Attributes.{present, accessor, width}
use Rattle.store.specs.Lists.{every, any, agree}
use Rattle.store.specs.ListLaws.{and_both, not-both, agree_self, eqb_sym}
use Rattle.store.specs.Model.{Model, no_entry}
use Rattle.store.specs.PlaceLaws.{same?}
use Rattle.store.specs.Scans.{Scanning, every_scan, stopped, went_on, ended}
use Rattle.store.specs.declared.Shape.{Shape}
use Rattle.store.specs.declared.Entry.{Entry}
use Rattle.store.specs.declared.Edge.{Edge}
use Rattle.rules.specs.Shapes.{entry, is_key, has, widths, pairs}
use Rattle.rules.specs.Shapes.{table_of, entries}
use Rattle.rules.specs.Steps.{configure, prototype, may_step, step_entries, step_prototype}
use Rattle.rules.specs.Sound.{tables_good, step_of, leads}
use Rattle.rules.specs.InUse.{Tabled}
use Rattle.sound_shapes.specs.Keys.{keys_differ, good_entries_lem, tabled_long}
use Rattle.sound_shapes.specs.Tests.{width_fits}

-- ## Entry by entry

abbrev pub same_pair : Entry → Entry → Bool
same_pair f e = eqb f.key e.key && eqb f.attributes e.attributes

-- The entry after a step: of a configure the key's attributes are other ones.
abbrev pub changed : (configures : Bool) → Edge → Entry → Entry
changed configures edge e =
    if configures && is_key edge.label e then entry edge.label edge.attributes e.slot.0 else e

abbrev pub both : List Entry → List Entry → List (Entry × Entry)
both [] es = []
both (f ∷ fs) [] = []
both (f ∷ fs) (e ∷ es) = (f, e) ∷ both fs es

module _ (step : Entry → Entry) where
  abbrev pub follows : Entry × Entry → Bool
  follows (f, e) = same_pair f (step e)

  agree-both : (fs es : List Entry) → length fs ≡ length es
      → every follows (both fs es) ≡ agree (pairs fs) (pairs (map step es))
  agree-both [] [] l = refl
  agree-both [] (e ∷ es) l = absurd (omega (arith, l))
  agree-both (f ∷ fs) [] l = absurd (omega (arith, l))
  agree-both (f ∷ fs) (e ∷ es) l = rw (and_assoc, agree-both fs es (omega (arith, l)))

length_both : (fs es : List Entry) → length fs ≡ length es → length (both fs es) ≡ length es
length_both [] es l = l
length_both (f ∷ fs) [] l = absurd (omega (arith, l))
length_both (f ∷ fs) (e ∷ es) l = ap suc (length_both fs es (omega (arith, l)))

both_at : (fs es : List Entry) (k : ℕ) → length fs ≡ length es → k < length es
    → get_or (both fs es) k (no_entry, no_entry) ≡ (get_or fs k no_entry, get_or es k no_entry)
both_at [] es k l h = absurd (omega (arith, l))
both_at (f ∷ fs) [] k l h = absurd (not-suc-le-zero h)
both_at (f ∷ fs) (e ∷ es) zero l h = refl
both_at (f ∷ fs) (e ∷ es) (suc k) l h = both_at fs es k (omega (arith, l)) (le_of_suc-le-suc h)

changed_never : (edge : Edge) (es : List Entry) → map (changed false edge) es ≡ es
changed_never edge [] = refl
changed_never edge (e ∷ es) = ap (λ (more : List Entry). e ∷ more) (changed_never edge es)

-- Lists of other lengths do not agree.
lengths_differ : (fs es : List Entry) → length fs ≢ length es → false ≡ agree (pairs fs) (pairs es)
lengths_differ [] [] ne = absurd (ne refl)
lengths_differ [] (e ∷ es) ne = refl
lengths_differ (f ∷ fs) [] ne = refl
lengths_differ (f ∷ fs) (e ∷ es) ne =
    rw (← (lengths_differ fs es (λ q. ne (ap suc q))), and-false, and-false)

-- One entry more: those before it agree, and it is the last.
last_agrees : (fs es : List Entry) (x : Entry) → length fs ≡ suc (length es)
    → (agree (pairs (take (length es) fs)) (pairs es) && same_pair (get_or fs (length es) no_entry) x)
    ≡ agree (pairs fs) (pairs (es ++ x ∷ []))
last_agrees [] es x l = absurd (omega (arith, l))
last_agrees (f ∷ []) [] x l = rw and-true
last_agrees (f ∷ g ∷ fs) [] x l = absurd (omega (arith, l))
last_agrees (f ∷ fs) (e ∷ es) x l = rw (and_assoc, and_assoc, last_agrees fs es x (omega (arith, l)))

-- ## The three kinds

module _ {kind : ℕ} (edge : Edge) where
  is_prototype : 1 < kind → step_of kind edge ≡ prototype edge.label
  is_prototype l = rw (ne_eqb kind 0 (λ e. omega arith), ne_eqb kind 1 (λ e. omega arith))

-- GET and SET are names of a stored value.
low_width : (a : ℕ) → width (a % 32) ≡ width a
unfolding width accessor present
low_width a =
    let get : a % 32 / 8 % 2 ≡ a / 8 % 2 = omega arith in
    let set : a % 32 / 16 % 2 ≡ a / 16 % 2 = omega arith in
    rw (get, set)

pub may_configure : (edge : Edge) (es : List Entry) {r : Bool}
    → r ≡ width_fits false edge.label (edge.attributes % 32) es
    → r ≡ may_step (configure edge.label edge.attributes) es
may_configure edge es answer = rw (low_width edge.attributes) at answer ∙ if_both (has edge.label es) _
  where
    if_both : (b c : Bool) → (if b then c else false) ≡ (b && c)
    if_both true c = refl
    if_both false c = refl

-- The last of the first k keys is one of all,
last_stands : (k : ℕ) (fs es : List Entry) (x : Entry)
    → agree (pairs (take k fs)) (pairs (es ++ x ∷ [])) ≡ true → any (eqb x.key) (map (λ e. e.key) fs) ≡ true
last_stands zero fs [] x a = absurd (false≢true a)
last_stands zero fs (e ∷ es) x a = absurd (false≢true a)
last_stands (suc k) [] [] x a = absurd (false≢true a)
last_stands (suc k) [] (e ∷ es) x a = absurd (false≢true a)
last_stands (suc k) (f ∷ fs) [] x a =
    rw (eqb_sym x.key f.key, (and_both (eqb f.key x.key) a).0)
last_stands (suc k) (f ∷ fs) (e ∷ es) x a =
    let rest = (and_both (eqb f.attributes e.attributes) (and_both (eqb f.key e.key) a).1).1 in
    rw (last_stands k fs es x rest, or-true)

-- and where all differ it is none of those before it.
last_absent : (k : ℕ) (fs es : List Entry) (x : Entry) → keys_differ fs ≡ true
    → agree (pairs (take k fs)) (pairs (es ++ x ∷ [])) ≡ true → has x.key es ≡ false
last_absent k fs [] x d a = refl
last_absent zero fs (e ∷ es) x d a = absurd (false≢true a)
last_absent (suc k) [] (e ∷ es) x d a = absurd (false≢true a)
last_absent (suc k) (f ∷ fs) (e ∷ es) x d a =
    let (same, more) = and_both (eqb f.key e.key) a in
    let rest = (and_both (eqb f.attributes e.attributes) more).1 in
    let later = any (eqb f.key) (map (λ e. e.key) fs) in
    let (apart, differ) = and_both (not later) d in
    let other : e.key ≢ x.key
    = λ q.
    not-both (rw (eqb-true f.key e.key same ∙ q) (last_stands k fs es x rest)) (not-true later apart) in
    rw (ne_eqb e.key x.key other) (last_absent k fs es x differ rest)

-- A step that adds no key: those that are there, but for the key of a configure.
kept-entries : (kind : ℕ) (edge : Edge) (es : List Entry) → kind ≢ 0
    → map (changed (eqb kind 1) edge) es ≡ step_entries (step_of kind edge) es
kept-entries kind edge es ne = rw (ne_eqb kind 0 ne) (go (eqb kind 1))
  where
    go : (b : Bool) → map (changed b edge) es
        ≡ step_entries (if b then configure edge.label edge.attributes else prototype edge.label) es
    go true = refl
    go false = changed_never edge es

-- ## Entries of a child and its previous

-- The child's keys and attributes are those that the step makes of the previous's.
abbrev pub entries_follow : Model → (previous child : Shape) → Edge → Bool
entries_follow m p s edge =
    agree (pairs (entries m s)) (pairs (step_entries (step_of s.step edge) (entries m p)))

-- As many of the child's as the previous has.
abbrev pub first_follow : Model → (previous child : Shape) → Edge → (configures : Bool) → Bool
first_follow m p s edge configures =
    agree (pairs (take p.properties (table_of m s))) (pairs (map (changed configures edge) (entries m p)))

module _ {m : Model} {p s : Shape} (old : Tabled m p) (new : Tabled m s) (edge : Edge) where
  pub insert_differs : s.step ≡ 0 → s.properties ≢ p.properties + 1 → false ≡ entries_follow m p s edge
  insert_differs e ne =
      let es = entries m p in
      let new_entry = entry edge.label edge.attributes (widths es) in
      let few = tabled_long old in
      let many = tabled_long new in
      rw e
      (lengths_differ (entries m s) (es ++ new_entry ∷ [])
      (λ q. ne (omega (arith, q, length-append es (new_entry ∷ [])))))

  pub insert_follows : {first : Bool} {last : Entry} → s.step ≡ 0 → s.properties ≡ p.properties + 1
      → first ≡ first_follow m p s edge false → last ≡ get_or (table_of m s) p.properties no_entry
      → (first && (eqb last.key edge.label && eqb last.attributes edge.attributes))
      ≡ entries_follow m p s edge
  insert_follows e longer f l =
      let es = entries m p in
      let few = tabled_long old in
      let many = tabled_long new in
      let new_entry = entry edge.label edge.attributes (widths es) in
      let all = last_agrees (entries m s) es new_entry (omega arith) in
      let before : take p.properties (entries m s) ≡ take p.properties (table_of m s)
      = take-take p.properties s.properties (table_of m s) (omega arith) in
      let its : get_or (entries m s) p.properties no_entry ≡ get_or (table_of m s) p.properties no_entry
      = get_or-take s.properties (table_of m s) p.properties no_entry (omega arith) in
      rw (e, f, changed_never edge es, l) (rw (few, before, its) at all)

  module _ (ne : s.step ≢ 0) where
    pub others_differ : s.properties ≢ p.properties → false ≡ entries_follow m p s edge
    others_differ differ =
        let es = entries m p in
        let after = map (changed (eqb s.step 1) edge) es in
        let few = tabled_long old in
        let many = tabled_long new in
        rw (← (kept-entries s.step edge es ne))
        (lengths_differ (entries m s) after
        (λ q. differ (omega (arith, q, length-map es (changed (eqb s.step 1) edge)))))

    pub others-follow : {first : Bool} → s.properties ≡ p.properties
        → first ≡ first_follow m p s edge (eqb s.step 1) → first ≡ entries_follow m p s edge
    others-follow same f = rw (same, ← (kept-entries s.step edge (entries m p) ne)) f

-- ## The whole step

known_first : (a b c : Bool) → (b ≡ true → a ≡ true) → (b && c) ≡ (a && b && c)
known_first a true c f = rw (f refl)
known_first a false c f = rw and-false

module _ (m : Model) (p s : Shape) (edge : Edge) where
  -- A step that is no configure needs no test: an insert's key is the child's last, and the child's keys differ.
  allowed : s.step ≢ 1 → tables_good m ≡ true → entries_follow m p s edge ≡ true
      → may_step (step_of s.step edge) (entries m p) ≡ true
  allowed ne good h = go (same? s.step 0)
    where
      go : (s.step ≡ 0) ⊎ (s.step ≢ 0) → may_step (step_of s.step edge) (entries m p) ≡ true
      go (inl z) =
          let es = entries m p in
          let new_entry = entry edge.label edge.attributes (widths es) in
          let differ = (good_entries_lem m good s).0 in
          rw (z, last_absent s.properties (table_of m s) es new_entry differ (rw z at h))
      go (inr nz) = rw (is_prototype {kind = s.step} edge (omega (arith, ne, nz)))

  module _
      {follow : Bool}
      {after : ℕ}
      (follows : follow ≡ entries_follow m p s edge)
      (becomes : after ≡ step_prototype (step_of s.step edge) p.prototype)
    where
      pub others_lead : s.step ≢ 1 → tables_good m ≡ true
          → (follow && eqb s.prototype after)
          ≡ leads (step_of s.step edge) (entries m p) p.prototype (entries m s) s.prototype
      others_lead ne good = rw (follows, becomes) (known_first _ _ _ (allowed ne good))

-- ## The comparison of the first entries

-- Each of the child's beside the previous's.
abbrev pub compared : Model → (previous child : Shape) → List (Entry × Entry)
compared m p s = both (take p.properties (table_of m s)) (entries m p)

abbrev pub Comparing : Model → (previous child : Shape) → Edge → (configures : Bool) → (done : ℕ) → Type 0
Comparing m p s edge configures done =
    Scanning (every_scan (no_entry, no_entry) (follows (changed configures edge)) (compared m p s)) done
    (every (follows (changed configures edge)) (compared m p s))

-- In one table they are the same words.
pub one_table : (m : Model) (p s : Shape) (edge : Edge) {configures : Bool} → configures ≡ false
    → p.table ≡ s.table → true ≡ first_follow m p s edge configures
one_table m p s edge never same =
    rw (never, changed_never edge (entries m p), same) (sym (agree_self (pairs (take p.properties (table_of m s)))))

module _
    {m : Model}
    {p s : Shape}
    (old : Tabled m p)
    (new : Tabled m s)
    (fits : p.properties ≤ s.properties)
    (edge : Edge)
    (configures : Bool)
  where
    as_long : length (take p.properties (table_of m s)) ≡ length (entries m p)
    as_long =
        let room = new.fits in
        length-take-le p.properties (table_of m s) (omega arith) ∙ sym (tabled_long old)

    many : length (compared m p s) ≡ p.properties
    many = length_both (take p.properties (table_of m s)) (entries m p) as_long ∙ tabled_long old

    ends : every (follows (changed configures edge)) (compared m p s) ≡ first_follow m p s edge configures
    ends = agree-both (changed configures edge) (take p.properties (table_of m s)) (entries m p) as_long

    module _ {done : ℕ} (c : Comparing m p s edge configures done) where
      module _
          {e f x : Entry}
          {r : Bool}
          (l : done < p.properties)
          (olds : e ≡ get_or (table_of m p) done no_entry)
          (news : f ≡ get_or (table_of m s) done no_entry)
          (after : x ≡ changed configures edge e)
          (same : r ≡ same_pair f x)
        where
          tested : follows (changed configures edge) (get_or (compared m p s) done (no_entry, no_entry)) ≡ r
          tested =
              let firsts = take p.properties (table_of m s) in
              let few = tabled_long old in
              let pair = both_at firsts (entries m p) done as_long (omega arith) in
              rw (
                pair,
                get_or-take p.properties (table_of m s) done no_entry l,
                get_or-take p.properties (table_of m p) done no_entry l,
                ← olds,
                ← news,
                ← after,
              )
              (sym same)

          pub compare_on : r ≡ true → Comparing m p s edge configures (done + 1)
          compare_on passed = went_on c (sym many) l (ap not (sym tested)) (ap not passed)

          pub compare_fails : r ≡ false → false ≡ first_follow m p s edge configures
          compare_fails failed = stopped c (sym many) l (ap not (sym tested)) (ap not failed) ∙ ends

      pub compare_all : p.properties ≤ done → true ≡ first_follow m p s edge configures
      compare_all l = ended c (sym many) l ∙ ends
