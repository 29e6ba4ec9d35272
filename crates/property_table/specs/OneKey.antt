-- The key at a position, where keys are distinct: other attributes for it, and the entries without it.
-- Assumes nothing.
use Rattle.std.specs.Prelude.{true, false, List, [], ◌∷◌, ◌++◌, ◌≡◌, refl, ℕ, zero, suc, ◌+◌, ◌≤◌, ◌<◌, eqb, length, get_or, set, take, drop}
use Rattle.std.proofs.lemmas.List.{map-append, set_split}
use Rattle.std.proofs.Common.{sym, ◌∙◌, ap, ap₂, not-suc-le-zero, le_of_suc-le-suc, add-one, arith, eq-eqb, length-take-le}
use Rattle.std.proofs.Math.Seq.{split_at, take-length}
use Rattle.slot.specs.Attributes.{most_stored, good_attributes, same_width}
use Rattle.store.specs.Model.{Model, used, free_table, table_at, put_table, no_entry}
use Rattle.store.specs.ListLaws.{or-none, eqb_sym, keep_append}
use Rattle.store.specs.Layout.{parse}
use Rattle.store.specs.Image.{Formed, Place, Becomes}
use Rattle.store.specs.declared.Entry.{Entry}
use Rattle.rules.specs.Shapes.{entry, is_key, has, attributes_in, appended, configured, without, laid}
use Rattle.rules.specs.Sound.{distinct, good_entries}
use Rattle.theorems.specs.Entries.{keys, first_apart, configured_absent, without_absent, laid_self}
use Rattle.theorems.specs.Entries.{good_slots, good_configured, length-appended}
use Rattle.property_table.specs.Slotted.{Slotted, slotted_take, slotted_appended, extended, extended_on}
use Rattle.property_table.specs.Copies.{entries_in, Apart, Copyable, copied, rest_copyable}
use Rattle.property_table.specs.Copies.{appended-after, copied-after}

abbrev pub key_at : List Entry → (position : ℕ) → ℕ
key_at es p = (get_or es p no_entry).key

not_at : (k : ℕ) (es : List Entry) (p : ℕ) → has k es ≡ false → p < length es → eqb (key_at es p) k ≡ false
not_at k [] p h l = absurd (not-suc-le-zero l)
not_at k (e ∷ es) zero h l = (or-none (is_key k e) h).0
not_at k (e ∷ es) (suc p) h l = not_at k es p (or-none (is_key k e) h).1 (le_of_suc-le-suc l)

-- ## The only position of a key

record Only (es : List Entry) (p : ℕ) : Type 0 where
  before : has (key_at es p) (take p es) ≡ false
  after : has (key_at es p) (drop (suc p) es) ≡ false

only_there : (es : List Entry) (p : ℕ) → distinct (keys es) ≡ true → p < length es → Only es p
only_there [] p h l = absurd (not-suc-le-zero l)
only_there (e ∷ es) zero h l = record { before = refl; after = (first_apart e es h).0 }
only_there (e ∷ es) (suc p) h l =
    let (fresh, rest) = first_apart e es h in
    let only = only_there es p rest (le_of_suc-le-suc l) in
    let other = eqb_sym e.key (key_at es p) ∙ not_at e.key es p fresh (le_of_suc-le-suc l) in
    record { before = rw other only.before; after = only.after }

module _ (xs : List Entry) (e : Entry) (ys : List Entry) (before : has e.key xs ≡ false)
    (after : has e.key ys ≡ false) where
  configured-parts : (a : ℕ)
      → configured (xs ++ e ∷ ys) e.key a ≡ xs ++ entry e.key a e.slot.0 ∷ ys
  configured-parts a =
      let rest = configured_absent e.key a ys after in
      map-append _ xs (e ∷ ys)
      ∙ rw (eq-eqb e.key e.key refl, configured_absent e.key a xs before)
      (ap (λ (zs : List Entry). xs ++ entry e.key a e.slot.0 ∷ zs) rest)

  without-parts : without (xs ++ e ∷ ys) e.key ≡ xs ++ ys
  without-parts =
      keep_append _ xs (e ∷ ys)
      ∙ rw (eq-eqb e.key e.key refl)
      (ap₂ ◌++◌ (without_absent e.key xs before) (without_absent e.key ys after))

module _ (es : List Entry) (p : ℕ) (h : distinct (keys es) ≡ true) (l : p < length es) where
  configured-at : (a : ℕ)
      → set es p (entry (key_at es p) a (get_or es p no_entry).slot.0) ≡ configured es (key_at es p) a
  configured-at a =
      let only = only_there es p h l in
      set_split es p _ l
      ∙ sym
      (ap (λ (zs : List Entry). configured zs (key_at es p) a) (split_at es p no_entry l)
      ∙ configured-parts (take p es) (get_or es p no_entry) (drop (suc p) es) only.before only.after a)

  without_at : take p es ++ drop (suc p) es ≡ without es (key_at es p)
  without_at =
      let only = only_there es p h l in
      sym
      (ap (λ (zs : List Entry). without zs (key_at es p)) (split_at es p no_entry l)
      ∙ without-parts (take p es) (get_or es p no_entry) (drop (suc p) es) only.before only.after)

  pub set-configured : (m : Model) (t a : ℕ) {before after : List ℕ} {e : Entry} → e ≡ get_or es p no_entry
      → Becomes before after (put_table m t (used (set es p (entry e.key a e.slot.0))))
      → Becomes before after (put_table m t (used (configured es (key_at es p) a)))
  set-configured m t a its b = rw (its, configured-at a) at b

  -- Copies but for this key: the first entries are copied as they are, those past the key with slots worked
  -- out anew: without the key,
  copied-without : Slotted es → (n : ℕ) → n ≡ length es
      → extended (take p es) (drop (p + 1) (take n es)) ≡ laid 0 (without es (key_at es p))
  copied-without s n all =
      rw (all, take-length es, add-one, ← without_at)
      (ap (λ (xs : List Entry). extended xs (drop (suc p) es)) (sym (slotted_take p s).slots)
      ∙ extended_on (take p es) (drop (suc p) es))

  -- and with other attributes for it.
  copied-changed : (a : ℕ) → Slotted es → (n : ℕ) → n ≡ length es
      → extended (appended (take p es) (key_at es p) a) (drop (p + 1) (take n es))
      ≡ laid 0 (configured es (key_at es p) a)
  copied-changed a s n all =
      let its = entry (key_at es p) a (get_or es p no_entry).slot.0 in
      rw (all, take-length es, add-one, ← configured-at a, set_split es p its l)
      (ap (λ (xs : List Entry). extended xs (its ∷ drop (suc p) es)) (sym (slotted_take p s).slots)
      ∙ extended_on (take p es) (its ∷ drop (suc p) es))

-- ## A copy to a free table, but for one key

-- The first p of the source's n entries were copied.
module _ {before now : List ℕ} {from to n p : ℕ} (f : Formed before) (t : Apart (parse before) from to)
    (all : n ≡ length (entries_in before from)) (inside : p < length (entries_in before from))
    (first : Becomes before now (put_table (parse before) to (used (take p (entries_in before from))))) where
  abbrev es : List Entry
  es = entries_in before from

  slots : Slotted (take p es)
  slots = slotted_take p t.slotted

  long : length (take p es) ≡ p
  long = length-take-le p es (omega arith)

  -- The others follow,
  pub others_ready : Copyable (parse now) from to (p + 1) n
  others_ready = rest_copyable t (take p es) first f slots (p + 1) n (omega arith) all (omega (arith, long))

  pub without-copied : {after : List ℕ} → distinct (keys es) ≡ true
      → Becomes now after (copied (parse now) from to (p + 1) n)
      → Becomes before after (put_table (parse before) to (used (laid 0 (without es (key_at es p)))))
  without-copied differ others =
      rw (copied-without es p differ inside t.slotted n all) at
      (copied-after t (take p es) first (p + 1) n others)

  -- or the key with other attributes, and then the others.
  pub key_ready : Place (length (parse now).tables) to
      × ((free_table (table_at (parse now) to) ≡ false)
      × ((length (entries_in now to) < (parse now).K) × Slotted (entries_in now to)))
  key_ready =
      let ready = rest_copyable t (take p es) first f slots p n (omega arith) all (omega (arith, long)) in
      let room = ready.room in
      (ready.tables.target, (ready.in_use, (omega arith, ready.slotted)))

  module _ {next : List ℕ} (a : ℕ) {e : Entry} (its : e ≡ get_or es p no_entry)
      (one : Becomes now next (put_table (parse now) to (used (appended (entries_in now to) e.key a)))) where
    abbrev grown : List Entry
    grown = appended (take p es) e.key a

    key_copied : Becomes before next (put_table (parse before) to (used grown))
    key_copied = appended-after t (take p es) first e.key a one

    pub changed_ready : a ≤ most_stored → Formed next × Copyable (parse next) from to (p + 1) n
    changed_ready low =
        let longer = length-appended (take p es) e.key a in
        let right = slotted_appended e.key a slots low in
        let few : length grown ≤ p + 1 = omega (arith, longer, long) in
        (key_copied.formed, rest_copyable t grown key_copied f right (p + 1) n (omega arith) all few)

    pub changed-copied : {after : List ℕ} → distinct (keys es) ≡ true
        → Becomes next after (copied (parse next) from to (p + 1) n)
        → Becomes before after (put_table (parse before) to (used (laid 0 (configured es (key_at es p) a))))
    changed-copied differ others =
        rw (its, copied-changed es p differ inside a t.slotted n all) at
        (copied-after t grown key_copied (p + 1) n others)

-- ## Slots that stay

-- Attributes of equal width move no slot.
pub configured-laid : (k a : ℕ) (es : List Entry) → good_entries es ≡ true → good_attributes a ≡ true
    → same_width (attributes_in k es) a ≡ true → laid 0 (configured es k a) ≡ configured es k a
configured-laid k a es good byte same =
    laid_self 0 (configured es k a) (good_slots (configured es k a) (good_configured es k a good byte same))
