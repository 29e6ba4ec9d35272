-- Keys of entries and of steps: what a step does to them, distinct keys in parts, inserts of distinct keys.
-- Assumes nothing.
use Rattle.std.specs.Prelude.{Bool, true, false, ◌||◌, not, List, [], ◌∷◌, ◌++◌, map, ◌≡◌, refl, ℕ, eqb}
use Rattle.std.proofs.lemmas.Bool.{false≢true, not-true}
use Rattle.std.proofs.Common.{append-nil, inl, inr, sym, ◌∙◌, ap, ap₂, eqb-true, eq-eqb}
use Rattle.std.proofs.lemmas.List.{map-append}
use Rattle.std.proofs.Math.Seq.{append_snoc}
use Rattle.std.specs.Prelude.{if◌then◌else◌}
use Rattle.store.specs.Lists.{keep, every, any}
use Rattle.store.specs.ListLaws.{and_both, or_then, then_or, or-none, any_append, keep_append, keep-map}
use Rattle.store.specs.ListLaws.{Decided, either, not-both, eqb_sym}
use Rattle.store.specs.declared.Entry.{Entry}
use Rattle.rules.specs.Shapes.{entry, is_key, widths, appended, configured, without}
use Rattle.rules.specs.Steps.{Step, insert, configure, prototype, edge_of, step_entries, same_key}
use Rattle.rules.specs.Sound.{distinct}
use Rattle.theorems.specs.Entries.{keys, has-keys}
use Rattle.theorems.specs.Made.{good_step}
use Rattle.theorems.specs.InTurn.{steps_entries, steps_prototype, LegalInTurn}

-- ## Distinct numbers in two parts

-- The numbers of each part are distinct, and none is in both.
pub record Apart (xs ys : List ℕ) : Type 0 where
  pub left : distinct xs ≡ true
  pub right : distinct ys ≡ true
  pub apart : (k : ℕ) → any (eqb k) xs ≡ true → any (eqb k) ys ≡ false

distinct_apart : (xs ys : List ℕ) → distinct (xs ++ ys) ≡ true → Apart xs ys
distinct_apart [] ys h = record { left = refl; right = h; apart = λ k e. absurd (false≢true e) }
distinct_apart (x ∷ xs) ys h =
    let (fresh, rest) = and_both (not (any (eqb x) (xs ++ ys))) h in
    let absent = rw any_append at (not-true (any (eqb x) (xs ++ ys)) fresh) in
    let (not_left, not_right) = or-none (any (eqb x) xs) absent in
    let p = distinct_apart xs ys rest in
    record {
      left = rw not_left p.left;
      right = p.right;
      apart = λ k e. go k e not_right p (either (eqb k x));
    }
  where
    go : (k : ℕ) → any (eqb k) (x ∷ xs) ≡ true → any (eqb x) ys ≡ false → Apart xs ys
        → Decided (eqb k x) → any (eqb k) ys ≡ false
    go k e not_right p (inl q) = rw (eqb-true k x q) not_right
    go k e not_right p (inr q) = p.apart k (or_then (eqb k x) e q)

pub apart_distinct : (xs ys : List ℕ) → Apart xs ys → distinct (xs ++ ys) ≡ true
apart_distinct [] ys p = p.right
apart_distinct (x ∷ xs) ys p =
    let (fresh, rest) = and_both (not (any (eqb x) xs)) p.left in
    let not_right = p.apart x (rw (eq-eqb x x refl)) in
    let absent : any (eqb x) (xs ++ ys) ≡ false
    = any_append (eqb x) xs ys ∙ ap₂ ◌||◌ (not-true (any (eqb x) xs) fresh) not_right in
    rw absent (apart_distinct xs ys record {
      left = rest;
      right = p.right;
      apart = λ k e. p.apart k (then_or (eqb k x) (λ z. e));
    })

-- A number among distinct ones stands in one place.
pub record Alone (xs : List ℕ) (k : ℕ) (ys : List ℕ) : Type 0 where
  pub not_before : any (eqb k) xs ≡ false
  pub not_after : any (eqb k) ys ≡ false
  pub others : Apart xs ys

pub distinct-alone : (xs : List ℕ) (k : ℕ) (ys : List ℕ) → distinct (xs ++ k ∷ ys) ≡ true → Alone xs k ys
distinct-alone xs k ys h =
    let p = distinct_apart xs (k ∷ ys) h in
    let (fresh, rest) = and_both (not (any (eqb k) ys)) p.right in
    record {
      not_before = before p (either (any (eqb k) xs));
      not_after = not-true (any (eqb k) ys) fresh;
      others = record { left = p.left; right = rest; apart = λ j e. (or-none (eqb j k) (p.apart j e)).1 };
    }
  where
    before : Apart xs (k ∷ ys) → Decided (any (eqb k) xs) → any (eqb k) xs ≡ false
    before p (inl e) = not-both (eq-eqb k k refl) (or-none (eqb k k) (p.apart k e)).0
    before p (inr e) = e

-- ## Entries without a key

keep-others : (k : ℕ) (ks : List ℕ) → any (eqb k) ks ≡ false → keep (λ j. not (eqb j k)) ks ≡ ks
keep-others k [] h = refl
keep-others k (j ∷ ks) h =
    let (other, rest) = or-none (eqb k j) h in
    rw (eqb_sym j k, other) (ap (λ (js : List ℕ). j ∷ js) (keep-others k ks rest))

pub keys-without : (es : List Entry) (xs : List ℕ) (k : ℕ) (ys : List ℕ) → keys es ≡ xs ++ k ∷ ys
    → Alone xs k ys → keys (without es k) ≡ xs ++ ys
keys-without es xs k ys e a =
    sym (keep-map (λ j. not (eqb j k)) (λ e. e.key) es)
    ∙ ap (keep (λ j. not (eqb j k))) e
    ∙ keep_append (λ j. not (eqb j k)) xs (k ∷ ys)
    ∙ rw (eq-eqb k k refl) (ap₂ ◌++◌ (keep-others k xs a.not_before) (keep-others k ys a.not_after))

-- ## What a step does to the keys

-- The keys that a step adds.
abbrev pub added_keys : Step → List ℕ
added_keys (insert k a) = k ∷ []
added_keys (configure k a) = []
added_keys (prototype p) = []

pub keys-configured : (es : List Entry) (k a : ℕ) → keys (configured es k a) ≡ keys es
keys-configured [] k a = refl
keys-configured (e ∷ es) k a = go (is_key k e) refl (keys-configured es k a)
  where
    go : (b : Bool) → is_key k e ≡ b → keys (configured es k a) ≡ keys es
        → keys ((if b then entry k a e.slot.0 else e) ∷ configured es k a) ≡ keys (e ∷ es)
    go true q again = ap₂ ◌∷◌ (sym (eqb-true e.key k q)) again
    go false q again = ap (λ (ks : List ℕ). e.key ∷ ks) again

pub keys_stepped : (t : Step) (es : List Entry) → keys (step_entries t es) ≡ keys es ++ added_keys t
keys_stepped (insert k a) es = map-append (λ e. e.key) es (entry k a (widths es) ∷ [])
keys_stepped (configure k a) es = keys-configured es k a ∙ sym (append-nil (keys es))
keys_stepped (prototype p) es = sym (append-nil (keys es))

-- ## Inserts of distinct keys

-- The keys that steps name.
abbrev pub step_keys : List Step → List ℕ
step_keys ts = map (λ t. (edge_of 0 t 0).label) ts

pub same_key_any : (k : ℕ) (ts : List Step) → any (same_key k) ts ≡ any (eqb k) (step_keys ts)
same_key_any k [] = refl
same_key_any k (t ∷ ts) = rw (eqb_sym (edge_of 0 t 0).label k, same_key_any k ts)

-- An insert of a good key with attributes up to 31.
abbrev pub good_insert : Step → Bool
good_insert (insert k a) = good_step (insert k a)
good_insert (configure k a) = false
good_insert (prototype p) = false

-- The steps are legal from the entries es and lead to the keys ks, and from the prototype p to q.
pub record LeadTo (ts : List Step) (es : List Entry) (p : ℕ) (ks : List ℕ) (q : ℕ) : Type 0 where
  pub legal : LegalInTurn ts es
  pub its_keys : keys (steps_entries ts es) ≡ ks
  pub its_prototype : steps_prototype ts p ≡ q

pub inserts_lead : (ts : List Step) (es : List Entry) (p : ℕ) → every good_insert ts ≡ true
    → distinct (keys es ++ step_keys ts) ≡ true → LeadTo ts es p (keys es ++ step_keys ts) p
inserts_lead [] es p g d = record { legal = tt; its_keys = sym (append-nil (keys es)); its_prototype = refl }
inserts_lead (insert k a ∷ ts) es p g d =
    let (good, rest) = and_both (good_insert (insert k a)) g in
    let absent = has-keys k es ∙ (distinct-alone (keys es) k (step_keys ts) d).not_before in
    let one : keys (appended es k a) ++ step_keys ts ≡ keys es ++ k ∷ step_keys ts
    = rw (keys_stepped (insert k a) es) (append_snoc (keys es) k (step_keys ts)) in
    let l = inserts_lead ts (appended es k a) p rest (rw one d) in
    record { legal = (good, rw absent, l.legal); its_keys = l.its_keys ∙ one; its_prototype = l.its_prototype }
inserts_lead (configure k a ∷ ts) es p g d = absurd (false≢true g)
inserts_lead (prototype q ∷ ts) es p g d = absurd (false≢true g)
