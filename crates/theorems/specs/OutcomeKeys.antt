-- The keys that each change of a shape leads to, in their order, and the attributes of a changed key.
-- Assumes nothing.
use Rattle.std.specs.Prelude.{Bool, true, false, ◌||◌, List, [], ◌∷◌, ◌++◌, ◌⊎◌, ◌≡◌, refl, ℕ, ◌+◌}
use Rattle.std.proofs.Math.Bool.{or-true}
use Rattle.std.proofs.lemmas.Bool.{false≢true}
use Rattle.std.proofs.Common.{inl, inr, ◌∙◌, ap, eq-eqb}
use Rattle.std.specs.Prelude.{if◌then◌else◌}
use Rattle.slot.specs.Attributes.{good_attributes, width, same_width}
use Rattle.store.specs.Lists.{every}
use Rattle.store.specs.Model.{Model, shape_at}
use Rattle.store.specs.ListLaws.{and_both, or-none, any_append, Decided, either}
use Rattle.store.specs.declared.Entry.{Entry}
use Rattle.rules.specs.Shapes.{entry, is_key, has, attributes_in, widths, configured, without, laid, unique}
use Rattle.rules.specs.Steps.{Step, insert, configure, prototype, rollback}
use Rattle.theorems.specs.Facts.{Used, Sound, shared-not-unique}
use Rattle.theorems.specs.Entries.{keys}
use Rattle.theorems.specs.Made.{SharedAt, entries_at}
use Rattle.theorems.specs.InTurn.{steps_entries}
use Rattle.theorems.specs.Keys.{keys-configured, good_insert}
use Rattle.theorems.specs.TrailLaws.{newest-entries}
use Rattle.theorems.specs.Rollback.{rolled_back}
use Rattle.theorems.specs.Outcomes.{by_change, by_removal, change_steps}

-- ## Entries

laid-keys : (n : ℕ) (es : List Entry) → keys (laid n es) ≡ keys es
laid-keys n [] = refl
laid-keys n (e ∷ es) = ap (λ (ks : List ℕ). e.key ∷ ks) (laid-keys (n + width e.attributes) es)

module _ (k : ℕ) where
  laid_attributes : (n : ℕ) (es : List Entry) → attributes_in k (laid n es) ≡ attributes_in k es
  laid_attributes n [] = refl
  laid_attributes n (e ∷ es) =
      ap (λ (x : ℕ). if is_key k e then e.attributes else x) (laid_attributes (n + width e.attributes) es)

  configured_attributes : (es : List Entry) (a : ℕ) → has k es ≡ true → attributes_in k (configured es k a) ≡ a
  configured_attributes [] a h = absurd (false≢true h)
  configured_attributes (e ∷ es) a h = go (is_key k e) refl h (configured_attributes es a)
    where
      go : (b : Bool) → is_key k e ≡ b → (b || has k es) ≡ true
          → (has k es ≡ true → attributes_in k (configured es k a) ≡ a)
          → attributes_in k ((if b then entry k a e.slot.0 else e) ∷ configured es k a) ≡ a
      go true q h later = rw (eq-eqb k k refl)
      go false q h later = rw q (later h)

  -- A key that is there keeps its attributes where entries are added,
  more_attributes : (es fs : List Entry) → has k es ≡ true → attributes_in k (es ++ fs) ≡ attributes_in k es
  more_attributes [] fs h = absurd (false≢true h)
  more_attributes (e ∷ es) fs h = go (is_key k e) h (more_attributes es fs)
    where
      go : (b : Bool) → (b || has k es) ≡ true
          → (has k es ≡ true → attributes_in k (es ++ fs) ≡ attributes_in k es)
          → (if b then e.attributes else attributes_in k (es ++ fs))
          ≡ (if b then e.attributes else attributes_in k es)
      go true h later = refl
      go false h later = later h

  -- and a new one has its own.
  new_attributes : (es : List Entry) (a n : ℕ) → has k es ≡ false
      → attributes_in k (es ++ entry k a n ∷ []) ≡ a
  new_attributes [] a n h = rw (eq-eqb k k refl)
  new_attributes (e ∷ es) a n h =
      let (other, rest) = or-none (is_key k e) h in
      rw other (new_attributes es a n rest)

  inserts_attributes : (ts : List Step) (es : List Entry) → every good_insert ts ≡ true → has k es ≡ true
      → attributes_in k (steps_entries ts es) ≡ attributes_in k es
  inserts_attributes [] es g h = refl
  inserts_attributes (insert j a ∷ ts) es g h =
      let more = entry j a (widths es) ∷ [] in
      let still : has k (es ++ more) ≡ true = rw (any_append (is_key k) es more, h) in
      inserts_attributes ts (es ++ more) (and_both (good_insert (insert j a)) g).1 still
      ∙ more_attributes es more h
  inserts_attributes (configure j a ∷ ts) es g h = absurd (false≢true g)
  inserts_attributes (prototype p ∷ ts) es g h = absurd (false≢true g)

-- ## Changes

module _ (m : Model) (sound : Sound m) (n k : ℕ) (u : Used m n) where
  abbrev es : List Entry
  es = entries_at m n

  abbrev State : Type 0
  State = SharedAt m n ⊎ (unique (shape_at m n) ≡ true)

  module _ (a : ℕ) (low : good_attributes a ≡ true) (holds : has k es ≡ true) where
    -- A change keeps the keys and their order,
    pub change-keys : keys (by_change m n k a).entries ≡ keys es
    change-keys = go (either (same_width (attributes_in k es) a)) (sound.shapes n u).words.state
      where
        go : Decided (same_width (attributes_in k es) a) → State → keys (by_change m n k a).entries ≡ keys es
        go (inl same) s = rw same (keys-configured es k a)
        go (inr other) (inl h) =
            rw (other, shared-not-unique (shape_at m n) h)
            ((rolled_back m sound n k h holds).change a low).its_keys
        go (inr other) (inr r) = rw (other, r) (laid-keys 0 (configured es k a) ∙ keys-configured es k a)

    -- and gives the key its new attributes.
    pub change_attributes : attributes_in k (by_change m n k a).entries ≡ a
    change_attributes = go (either (same_width (attributes_in k es) a)) (sound.shapes n u).words.state
      where
        from-base : SharedAt m n
            → attributes_in k (steps_entries (change_steps m n k a) (entries_at m (rollback m n k).base)) ≡ a
        from-base h =
            let b = rollback m n k in
            let f = (rolled_back m sound n k h holds).found in
            let fs = entries_at m b.base in
            let more = entry k a (widths fs) ∷ [] in
            let us = insert k a ∷ b.yielded in
            let past : steps_entries (b.newest ++ us) fs ≡ steps_entries us fs
            = rw f.newest (newest-entries f.later us fs) in
            let there : has k (fs ++ more) ≡ true
            = rw (any_append (is_key k) fs more, eq-eqb k k refl) (or-true (has k fs)) in
            ap (attributes_in k) past
            ∙ inserts_attributes k b.yielded (fs ++ more) f.good_inserts there
            ∙ new_attributes k fs a (widths fs) f.lacks

        go : Decided (same_width (attributes_in k es) a) → State
            → attributes_in k (by_change m n k a).entries ≡ a
        go (inl same) s = rw same (configured_attributes k es a holds)
        go (inr other) (inl h) = rw (other, shared-not-unique (shape_at m n) h) (from-base h)
        go (inr other) (inr r) =
            rw (other, r) (laid_attributes k 0 (configured es k a) ∙ configured_attributes k es a holds)

  -- A removal keeps the other keys and their order.
  pub removal-keys : (SharedAt m n → has k es ≡ true) → keys (by_removal m n k).entries ≡ keys (without es k)
  removal-keys holds = go (sound.shapes n u).words.state
    where
      go : State → keys (by_removal m n k).entries ≡ keys (without es k)
      go (inl h) =
          rw (shared-not-unique (shape_at m n) h) (rolled_back m sound n k h (holds h)).removal.its_keys
      go (inr r) = rw r (laid-keys 0 (without es k))
