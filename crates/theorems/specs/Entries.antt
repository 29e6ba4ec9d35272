-- What the rules do to the entries of a table keeps them good; a slot index is the sum of the widths before
-- it.
-- Assumes nothing.
use Rattle.std.specs.Prelude.{Bool, true, false, ◌&&◌, ◌||◌, not, List, [], ◌∷◌, ◌++◌, map, ◌≡◌, refl, ℕ, zero, suc, ◌+◌, ◌≤◌, ◌<◌, eqb, length, take, get_or}
use Rattle.std.proofs.lemmas.Bool.{false≢true, not-true}
use Rattle.std.proofs.Common.{sym, ◌∙◌, ap, not-suc-le-zero, le_of_suc-le-suc, arith, eqb-true, eq-eqb, length-append}
use Rattle.std.proofs.lemmas.List.{length-map}
use Rattle.std.specs.Prelude.{if◌then◌else◌}
use Rattle.slot.specs.Attributes.{good_attributes, width, same_width}
use Rattle.store.specs.Lists.{keep, every, any, agree}
use Rattle.store.specs.Model.{no_entry}
use Rattle.store.specs.ListLaws.{and_both, both-and, or-none, agree→≡, agree_self, eqb_sym, length-keep}
use Rattle.store.specs.declared.Entry.{Entry}
use Rattle.rules.specs.Numbers.{good_key}
use Rattle.rules.specs.Shapes.{entry, is_key, has, attributes_in, widths, appended, configured, without, laid}
use Rattle.rules.specs.Shapes.{pairs}
use Rattle.rules.specs.Steps.{Step, may_step, step_entries, step_prototype}
use Rattle.rules.specs.Sound.{distinct, slots_from, good_entries, leads}

-- ## Good entries in parts

abbrev pub keys : List Entry → List ℕ
keys es = map (λ e. e.key) es

abbrev pub good_entry : Entry → Bool
good_entry e = good_key e.key && good_attributes e.attributes

-- Entries whose slots may have to be worked out.
pub record GoodKeys (es : List Entry) : Type 0 where
  pub differ : distinct (keys es) ≡ true
  pub each : every good_entry es ≡ true

pub good_keys : (es : List Entry) → good_entries es ≡ true → GoodKeys es
good_keys es h =
    let p = and_both (distinct (keys es)) (and_both (distinct (keys es) && every good_entry es) h).0 in
    record { differ = p.0; each = p.1 }

pub good_slots : (es : List Entry) → good_entries es ≡ true → slots_from 0 es ≡ true
good_slots es h = (and_both (distinct (keys es) && every good_entry es) h).1

make_good : {es : List Entry} → GoodKeys es → slots_from 0 es ≡ true → good_entries es ≡ true
make_good k s = both-and (both-and k.differ k.each) s

pub has-keys : (k : ℕ) (es : List Entry) → has k es ≡ any (eqb k) (keys es)
has-keys k [] = refl
has-keys k (e ∷ es) = rw (eqb_sym e.key k, has-keys k es)

-- The first of distinct keys is none of the others.
pub first_apart : (e : Entry) (es : List Entry) → distinct (keys (e ∷ es)) ≡ true
    → (has e.key es ≡ false) × (distinct (keys es) ≡ true)
first_apart e es h =
    let (fresh, rest) = and_both (not (any (eqb e.key) (keys es))) h in
    (has-keys e.key es ∙ not-true (any (eqb e.key) (keys es)) fresh, rest)

-- The parts of the first entry, and of the others.
key_apart : (e : Entry) (es : List Entry) → GoodKeys (e ∷ es) → has e.key es ≡ false
key_apart e es g = (first_apart e es g.differ).0

first_good : (e : Entry) (es : List Entry) → GoodKeys (e ∷ es) → good_entry e ≡ true
first_good e es g = (and_both (good_entry e) g.each).0

rest_good : (e : Entry) (es : List Entry) → GoodKeys (e ∷ es) → GoodKeys es
rest_good e es g =
    record {
      differ = (first_apart e es g.differ).1;
      each = (and_both (good_entry e) g.each).1;
    }

more_good : (e : Entry) (es : List Entry) → has e.key es ≡ false → good_entry e ≡ true
    → GoodKeys es → GoodKeys (e ∷ es)
more_good e es apart good g =
    record { differ = rw (← has-keys e.key es, apart) g.differ; each = both-and good g.each }

first_slot : (n : ℕ) (e : Entry) (es : List Entry) → slots_from n (e ∷ es) ≡ true → e.slot.0 ≡ n
first_slot n e es h = eqb-true e.slot.0 n (and_both (eqb e.slot.0 n) h).0

rest_slots : (n : ℕ) (e : Entry) (es : List Entry) → slots_from n (e ∷ es) ≡ true
    → slots_from (n + width e.attributes) es ≡ true
rest_slots n e es h = (and_both (eqb e.slot.0 n) h).1

-- ## A slot index is the sum of the widths before it

slot_from : (n : ℕ) (es : List Entry) → slots_from n es ≡ true → (p : ℕ) → p < length es
    → (get_or es p no_entry).slot.0 ≡ n + widths (take p es)
slot_from n [] h p l = absurd (not-suc-le-zero l)
slot_from n (e ∷ es) h zero l = omega (arith, first_slot n e es h)
slot_from n (e ∷ es) h (suc p) l =
    slot_from (n + width e.attributes) es (rest_slots n e es h) p (le_of_suc-le-suc l) ∙ omega arith

pub slot_at : (es : List Entry) → good_entries es ≡ true → (p : ℕ) → p < length es
    → (get_or es p no_entry).slot.0 ≡ widths (take p es)
slot_at es h p l = slot_from 0 es (good_slots es h) p l ∙ omega arith

-- ## The first entries

absent_take : (k n : ℕ) (es : List Entry) → has k es ≡ false → has k (take n es) ≡ false
absent_take k zero es h = refl
absent_take k (suc n) [] h = refl
absent_take k (suc n) (e ∷ es) h =
    let p = or-none (is_key k e) h in
    rw p.0 (absent_take k n es p.1)

pub attributes_take : (k n : ℕ) (es : List Entry) → has k (take n es) ≡ true
    → attributes_in k (take n es) ≡ attributes_in k es
attributes_take k zero es h = absurd (false≢true h)
attributes_take k (suc n) [] h = refl
attributes_take k (suc n) (e ∷ es) h = go (is_key k e) h (attributes_take k n es)
  where
    go : (b : Bool) → (b || has k (take n es)) ≡ true
        → (has k (take n es) ≡ true → attributes_in k (take n es) ≡ attributes_in k es)
        → (if b then e.attributes else attributes_in k (take n es))
        ≡ (if b then e.attributes else attributes_in k es)
    go true q later = refl
    go false q later = later q

keys-take : (n : ℕ) (es : List Entry) → GoodKeys es → GoodKeys (take n es)
keys-take zero es g = record { differ = refl; each = refl }
keys-take (suc n) [] g = record { differ = refl; each = refl }
keys-take (suc n) (e ∷ es) g =
    more_good e (take n es) (absent_take e.key n es (key_apart e es g)) (first_good e es g)
    (keys-take n es (rest_good e es g))

slots_take : (start n : ℕ) (es : List Entry) → slots_from start es ≡ true → slots_from start (take n es) ≡ true
slots_take start zero es h = refl
slots_take start (suc n) [] h = refl
slots_take start (suc n) (e ∷ es) h =
    both-and (eq-eqb e.slot.0 start (first_slot start e es h))
    (slots_take (start + width e.attributes) n es (rest_slots start e es h))

pub good_take : (n : ℕ) (es : List Entry) → good_entries es ≡ true → good_entries (take n es) ≡ true
good_take n es h = make_good (keys-take n es (good_keys es h)) (slots_take 0 n es (good_slots es h))

-- ## One entry more

has_more : (k : ℕ) (es : List Entry) (x : Entry) → has k es ≡ false → is_key k x ≡ false
    → has k (es ++ x ∷ []) ≡ false
has_more k [] x h q = rw q
has_more k (e ∷ es) x h q =
    let p = or-none (is_key k e) h in
    rw p.0 (has_more k es x p.1 q)

keys-more : (es : List Entry) (x : Entry) → GoodKeys es → good_entry x ≡ true → has x.key es ≡ false
    → GoodKeys (es ++ x ∷ [])
keys-more [] x g good absent = more_good x [] refl good g
keys-more (e ∷ es) x g good absent =
    let p = or-none (is_key x.key e) absent in
    let apart = has_more e.key es x (key_apart e es g) (eqb_sym x.key e.key ∙ p.0) in
    more_good e (es ++ x ∷ []) apart (first_good e es g) (keys-more es x (rest_good e es g) good p.1)

slots_more : (n : ℕ) (es : List Entry) (x : Entry) → slots_from n es ≡ true → x.slot.0 ≡ n + widths es
    → slots_from n (es ++ x ∷ []) ≡ true
slots_more n [] x h q = both-and (eq-eqb x.slot.0 n (omega arith)) refl
slots_more n (e ∷ es) x h q =
    both-and (eq-eqb e.slot.0 n (first_slot n e es h))
    (slots_more (n + width e.attributes) es x (rest_slots n e es h) (omega arith))

pub good_appended : (es : List Entry) (k a : ℕ) → good_entries es ≡ true
    → good_key k ≡ true → good_attributes a ≡ true → has k es ≡ false → good_entries (appended es k a) ≡ true
good_appended es k a h key attributes absent =
    make_good
    (keys-more es (entry k a (widths es)) (good_keys es h) (both-and key attributes) absent)
    (slots_more 0 es (entry k a (widths es)) (good_slots es h) (omega arith))

pub length-appended : (es : List Entry) (k a : ℕ) → length (appended es k a) ≡ length es + 1
length-appended es k a = length-append es (entry k a (widths es) ∷ [])

-- ## Other attributes for a key

-- The entry that stands for e.
abbrev set : (key attributes : ℕ) → Entry → Entry
set k a e = if is_key k e then entry k a e.slot.0 else e

set_key : (k a : ℕ) (e : Entry) → (set k a e).key ≡ e.key
set_key k a e = go (is_key k e) refl
  where
    go : (b : Bool) → is_key k e ≡ b → (if b then entry k a e.slot.0 else e).key ≡ e.key
    go true q = sym (eqb-true e.key k q)
    go false q = refl

set_good : (k a : ℕ) (e : Entry) → good_attributes a ≡ true → good_entry e ≡ true → good_entry (set k a e) ≡ true
set_good k a e low h = go (is_key k e) refl
  where
    go : (b : Bool) → is_key k e ≡ b → good_entry (if b then entry k a e.slot.0 else e) ≡ true
    go true q = both-and (rw (eqb-true e.key k q) at (and_both (good_key e.key) h).0) low
    go false q = h

pub has-configured : (j k a : ℕ) (es : List Entry) → has j (configured es k a) ≡ has j es
has-configured j k a [] = refl
has-configured j k a (e ∷ es) = rw (set_key k a e, has-configured j k a es)

keys-configured : (k a : ℕ) (es : List Entry) → GoodKeys es → good_attributes a ≡ true
    → GoodKeys (configured es k a)
keys-configured k a [] g low = g
keys-configured k a (e ∷ es) g low =
    let apart : has (set k a e).key (configured es k a) ≡ false
    = rw (set_key k a e, has-configured e.key k a es) (key_apart e es g) in
    more_good (set k a e) (configured es k a) apart (set_good k a e low (first_good e es g))
    (keys-configured k a es (rest_good e es g) low)

pub configured_absent : (k a : ℕ) (es : List Entry) → has k es ≡ false → configured es k a ≡ es
configured_absent k a [] h = refl
configured_absent k a (e ∷ es) h =
    let p = or-none (is_key k e) h in
    rw p.0 (ap (λ (fs : List Entry). e ∷ fs) (configured_absent k a es p.1))

slots_configured : (n k a : ℕ) (es : List Entry) → GoodKeys es → same_width (attributes_in k es) a ≡ true
    → slots_from n es ≡ true → slots_from n (configured es k a) ≡ true
slots_configured n k a [] g w h = refl
slots_configured n k a (e ∷ es) g w h =
    go (is_key k e) refl w (slots_configured (n + width e.attributes) k a es (rest_good e es g))
  where
    first : eqb e.slot.0 n ≡ true
    first = eq-eqb e.slot.0 n (first_slot n e es h)

    go : (b : Bool) → is_key k e ≡ b → same_width (if b then e.attributes else attributes_in k es) a ≡ true
        → (same_width (attributes_in k es) a ≡ true → slots_from (n + width e.attributes) es ≡ true
        → slots_from (n + width e.attributes) (configured es k a) ≡ true)
        → slots_from n ((if b then entry k a e.slot.0 else e) ∷ configured es k a) ≡ true
    go true q same later =
        let wide = eqb-true (width e.attributes) (width a) same in
        let absent : has k es ≡ false = rw (eqb-true e.key k q) at (key_apart e es g) in
        both-and first (rw (configured_absent k a es absent, ← wide) (rest_slots n e es h))
    go false q same later = both-and first (later same (rest_slots n e es h))

-- "configure sets a held key's attributes at equal width"
pub good_configured : (es : List Entry) (k a : ℕ) → good_entries es ≡ true → good_attributes a ≡ true
    → same_width (attributes_in k es) a ≡ true → good_entries (configured es k a) ≡ true
good_configured es k a h low w =
    make_good (keys-configured k a es (good_keys es h) low)
    (slots_configured 0 k a es (good_keys es h) w (good_slots es h))

pub length-configured : (es : List Entry) (k a : ℕ) → length (configured es k a) ≡ length es
length-configured es k a = length-map es (set k a)

pub take-configured : (n : ℕ) (es : List Entry) (k a : ℕ)
    → take n (configured es k a) ≡ configured (take n es) k a
take-configured zero es k a = refl
take-configured (suc n) [] k a = refl
take-configured (suc n) (e ∷ es) k a = ap (λ (fs : List Entry). set k a e ∷ fs) (take-configured n es k a)

-- ## Slots worked out

has-laid : (k n : ℕ) (es : List Entry) → has k (laid n es) ≡ has k es
has-laid k n [] = refl
has-laid k n (e ∷ es) = rw (has-laid k (n + width e.attributes) es)

keys-laid : (n : ℕ) (es : List Entry) → GoodKeys es → GoodKeys (laid n es)
keys-laid n [] g = g
keys-laid n (e ∷ es) g =
    let rest = laid (n + width e.attributes) es in
    let apart = has-laid e.key (n + width e.attributes) es ∙ key_apart e es g in
    more_good (entry e.key e.attributes n) rest apart (first_good e es g)
    (keys-laid (n + width e.attributes) es (rest_good e es g))

slots_laid : (n : ℕ) (es : List Entry) → slots_from n (laid n es) ≡ true
slots_laid n [] = refl
slots_laid n (e ∷ es) = both-and (eq-eqb n n refl) (slots_laid (n + width e.attributes) es)

good_laid : (es : List Entry) → GoodKeys es → good_entries (laid 0 es) ≡ true
good_laid es g = make_good (keys-laid 0 es g) (slots_laid 0 es)

pub length-laid : (n : ℕ) (es : List Entry) → length (laid n es) ≡ length es
length-laid n [] = refl
length-laid n (e ∷ es) = ap suc (length-laid (n + width e.attributes) es)

-- A width change.
pub good_changed : (es : List Entry) (k a : ℕ) → good_entries es ≡ true → good_attributes a ≡ true
    → good_entries (laid 0 (configured es k a)) ≡ true
good_changed es k a h low = good_laid (configured es k a) (keys-configured k a es (good_keys es h) low)

-- A removal.
module _ (test : Entry → Bool) where
  absent_keep : (k : ℕ) (es : List Entry) → has k es ≡ false → has k (keep test es) ≡ false
  absent_keep k [] h = refl
  absent_keep k (e ∷ es) h = go (test e) (or-none (is_key k e) h) (absent_keep k es)
    where
      go : (b : Bool) → (is_key k e ≡ false) × (has k es ≡ false)
          → (has k es ≡ false → has k (keep test es) ≡ false)
          → has k (if b then e ∷ keep test es else keep test es) ≡ false
      go true p later = rw p.0 (later p.1)
      go false p later = later p.1

  keys-keep : (es : List Entry) → GoodKeys es → GoodKeys (keep test es)
  keys-keep [] g = g
  keys-keep (e ∷ es) g = go (test e) (keys-keep es (rest_good e es g))
    where
      go : (b : Bool) → GoodKeys (keep test es) → GoodKeys (if b then e ∷ keep test es else keep test es)
      go true later =
          more_good e (keep test es) (absent_keep e.key es (key_apart e es g)) (first_good e es g) later
      go false later = later

pub good_without : (es : List Entry) (k : ℕ) → good_entries es ≡ true
    → good_entries (laid 0 (without es k)) ≡ true
good_without es k h = good_laid (without es k) (keys-keep (λ e. not (is_key k e)) es (good_keys es h))

pub length_without : (es : List Entry) (k : ℕ) → length (without es k) ≤ length es
length_without es k = length-keep (λ e. not (is_key k e)) es

-- Where the key is absent, and the slots are right already, nothing changes.
pub without_absent : (k : ℕ) (es : List Entry) → has k es ≡ false → without es k ≡ es
without_absent k [] h = refl
without_absent k (e ∷ es) h =
    let p = or-none (is_key k e) h in
    rw p.0 (ap (λ (fs : List Entry). e ∷ fs) (without_absent k es p.1))

pub laid_self : (n : ℕ) (es : List Entry) → slots_from n es ≡ true → laid n es ≡ es
laid_self n [] h = refl
laid_self n (e ∷ es) h =
    let slot = sym (first_slot n e es h) in
    let later = laid_self (n + width e.attributes) es (rest_slots n e es h) in
    λ j. entry e.key e.attributes (slot j) ∷ later j

pub laid_without_absent : (k : ℕ) (es : List Entry) → good_entries es ≡ true → has k es ≡ false
    → laid 0 (without es k) ≡ es
laid_without_absent k es h absent = rw (without_absent k es absent) (laid_self 0 es (good_slots es h))

-- ## What a step leads to

-- A step that may be taken leads to its own entries and prototype,
pub leads_on : (t : Step) (es : List Entry) (p : ℕ) → may_step t es ≡ true
    → leads t es p (step_entries t es) (step_prototype t p) ≡ true
leads_on t es p h =
    let q = step_prototype t p in
    both-and (both-and h (agree_self (pairs (step_entries t es)))) (eq-eqb q q refl)

-- and only to entries with the same keys and attributes.
pub record LedTo (t : Step) (es : List Entry) (p : ℕ) (fs : List Entry) (q : ℕ) : Type 0 where
  pub may : may_step t es ≡ true
  pub same_pairs : pairs fs ≡ pairs (step_entries t es)
  pub its_prototype : q ≡ step_prototype t p

pub led_to : (t : Step) (es : List Entry) (p : ℕ) (fs : List Entry) (q : ℕ) → leads t es p fs q ≡ true
    → LedTo t es p fs q
led_to t es p fs q h =
    let (a, proto) = and_both (may_step t es && agree (pairs fs) (pairs (step_entries t es))) h in
    let (may, same) = and_both (may_step t es) a in
    record {
      may = may;
      same_pairs = agree→≡ (pairs fs) (pairs (step_entries t es)) same;
      its_prototype = eqb-true q (step_prototype t p) proto;
    }
