-- Document 01, "Rollback before a held key": the walk back meets the key's insert step, and what it remembers is
-- the rollback of trails. The steps of a removal and of a change of width from the base are legal, lead to the
-- right keys and prototype, and make the trail no longer.
-- Assumes nothing.
use Rattle.std.specs.Prelude.{Bool, true, false, ◌⊎◌, ◌≡◌, ℕ, zero, suc, ◌+◌, ◌≤◌, ◌<◌, eqb, length}
use Rattle.std.proofs.lemmas.Bool.{false≢true, not-true}
use Rattle.std.proofs.Math.Bool.{or-false}
use mathlib.Core.List.{List, [], ◌∷◌, ◌++◌, map, append-nil}
use Rattle.std.proofs.Math.Logic.{inl}
use Rattle.std.proofs.Common.{inr, ◌∙◌, ap, arith, eqb-true, eq-eqb, length-append}
use Rattle.std.proofs.Math.Path.{refl, sym}
use Rattle.std.proofs.Math.Seq.{append_snoc}
use Rattle.std.specs.Prelude.{if◌then◌else◌}
use Rattle.slot.specs.Attributes.{good_attributes}
use Rattle.store.specs.Lists.{every, any, last}
use Rattle.store.specs.Model.{Model, no_entry, shape_at}
use Rattle.store.specs.ListLaws.{and_both, both-and, every-last, any_append, Decided, either, not-both, eqb_sym}
use Rattle.store.specs.ListLaws.{last-map, last-append, front_last}
use Rattle.store.specs.declared.Entry.{Entry}
use Rattle.rules.specs.Numbers.{good_key}
use Rattle.rules.specs.Shapes.{entry, is_key, has, without, widths, configured}
use Rattle.rules.specs.Steps.{Step, insert, configure, prototype, backward, chain, prototype_step, last_of}
use Rattle.rules.specs.Steps.{inserts, remember, same_key, yields, Back, back, rollback}
use Rattle.rules.specs.Sound.{distinct}
use Rattle.rules.specs.Trails.{made_by, trail, root}
use Rattle.theorems.specs.Facts.{Sound}
use Rattle.theorems.specs.Entries.{keys, good_entry, GoodKeys, good_keys, has-configured}
use Rattle.theorems.specs.Made.{SharedAt, entries_at, prototype_at, previous_at, transitions_at, Made}
use Rattle.theorems.specs.Made.{entries_good, made, at-root}
use Rattle.theorems.specs.InTurn.{steps_prototype, prototype_append}
use Rattle.theorems.specs.SameTrail.{trail-length, trail-before, root_before, trail_contents}
use Rattle.theorems.specs.Keys.{apart_distinct, Alone, distinct-alone, keys-without, keys_stepped}
use Rattle.theorems.specs.Keys.{step_keys, same_key_any, good_insert, LeadTo, inserts_lead}
use Rattle.theorems.specs.TrailRules.{or_else, newest_prototype, attributes_while_last, keys_again}
use Rattle.theorems.specs.TrailLaws.{ByNewest, newest_says, again_long}

-- ## Statements

abbrev pub keys_at : Model → ℕ → List ℕ
keys_at m n = keys (entries_at m n)

-- No prototype step was passed and n's prototype is that at p, or the step to n's prototype is remembered.
abbrev Newest : Model → (n p : ℕ) → List Step → Type 0
Newest m n p ps =
    ((ps ≡ []) × (prototype_at m n ≡ prototype_at m p)) ⊎ (ps ≡ prototype (prototype_at m n) ∷ [])

-- What the walk back from n finds.
pub record Found (m : Model) (n key : ℕ) (b : Back) : Type 0 where
  -- the key's insert step and the steps after it; "the base is the shape before that"
  pub attributes : ℕ
  pub later : List Step
  pub parts : trail m n ≡ trail m b.base ++ insert key attributes ∷ later
  pub base_shared : SharedAt m b.base
  pub same_root : root m b.base ≡ root m n
  pub good_key : good_key key ≡ true
  pub lacks : has key (entries_at m b.base) ≡ false
  -- what is remembered of the steps after it
  pub newest : b.newest ≡ newest_prototype later
  pub yielded : b.yielded ≡ keys_again later
  pub good_inserts : every good_insert b.yielded ≡ true
  -- n's keys are the base's, then the key, then those yielded
  pub splits : keys_at m n ≡ keys_at m b.base ++ key ∷ step_keys b.yielded

-- What follows of the steps from the base.
pub record RolledBack (m : Model) (n key : ℕ) (b : Back) : Type 0 where
  pub found : Found m n key b
  -- a shape that is passed adds at most one step, and the one that the key's insert step made adds none
  pub short : transitions_at m b.base + (length b.newest + length b.yielded) < transitions_at m n
  -- the yielded keys are distinct, none of them is the key, and none is the base's
  pub alone : Alone (keys_at m b.base) key (step_keys b.yielded)
  -- a removal leads to n's other keys and prototype, in fewer steps than n's
  pub removal :
      LeadTo (b.newest ++ b.yielded) (entries_at m b.base) (prototype_at m b.base)
      (keys (without (entries_at m n) key)) (prototype_at m n)
  pub shorter : length (b.newest ++ b.yielded) + transitions_at m b.base < transitions_at m n
  -- a change of width leads to n's keys and prototype, in no more steps than n's
  pub change : (a : ℕ) → good_attributes a ≡ true
      → LeadTo (b.newest ++ insert key a ∷ b.yielded) (entries_at m b.base) (prototype_at m b.base)
      (keys_at m n) (prototype_at m n)
  pub no_longer : (a : ℕ)
      → length (b.newest ++ insert key a ∷ b.yielded) + transitions_at m b.base ≤ transitions_at m n

-- ## The last entry of a shape

-- Where a step has configured the key j.
last-configured : (k j b : ℕ) (es : List Entry) → has k es ≡ true
    → let e = last es no_entry in
    last (configured es j b) no_entry ≡ (if is_key j e then entry j b e.slot.0 else e)
last-configured k j b [] h = absurd (false≢true h)
last-configured k j b (x ∷ xs) h = last-map (λ e. if is_key j e then entry j b e.slot.0 else e) xs x

set_last : (j b : ℕ) (f : Entry) → let e = if is_key j f then entry j b f.slot.0 else f in
    (e.key ≡ f.key) × (e.attributes ≡ (if eqb j f.key then b else f.attributes))
set_last j b f = go (is_key j f) refl
  where
    go : (c : Bool) → is_key j f ≡ c → let e = if c then entry j b f.slot.0 else f in
        (e.key ≡ f.key) × (e.attributes ≡ (if eqb j f.key then b else f.attributes))
    go true q = (sym (eqb-true f.key j q), rw (eqb_sym j f.key, q))
    go false q = (refl, rw (eqb_sym j f.key, q))

-- ## The walk

module _ (m : Model) (sound : Sound m) (n k : ℕ) (h : SharedAt m n) where
  good : (p : ℕ) → SharedAt m p → GoodKeys (entries_at m p)
  good p g = good_keys (entries_at m p) (entries_good m sound p g)

  abbrev last_at : ℕ → Entry
  last_at p = last_of m (shape_at m p)

  -- All yields, where the shape with the last entry e has yielded.
  abbrev full_yield : Entry → (passed : List Step) → List Step
  full_yield e us = insert e.key (attributes_while_last e.key e.attributes us) ∷ keys_again us

  -- The last key of the shape is not yielded yet, and keeps its attributes if it is not the key itself; or it
  -- is yielded already.
  abbrev Come : Entry → (passed yielded : List Step) → Type 0
  Come e us ts =
      ((ts ≡ keys_again us) × (eqb e.key k ≡ false → (a : ℕ) → attributes_while_last e.key a us ≡ a))
      ⊎ ((ts ≡ full_yield e us) × (eqb e.key k ≡ false))

  -- What is known when the walk comes to p and has passed the steps us.
  record Reached (p : ℕ) (us ps ts : List Step) : Type 0 where
    is_shared : SharedAt m p
    same_root : root m p ≡ root m n
    parts : trail m n ≡ trail m p ++ us
    holds_key : has k (entries_at m p) ≡ true
    splits : keys_at m n ≡ keys_at m p ++ step_keys (keys_again us)
    newest : ps ≡ newest_prototype us
    good_inserts : every good_insert ts ≡ true
    come : Come (last_at p) us ts

  -- The last key is none of those that stand behind it.
  not-again : (p : ℕ) (us ps ts : List Step) → Reached p us ps ts
      → any (same_key (last_at p).key) (keys_again us) ≡ false
  not-again p us ps ts r = go (entries_at m p) refl r.holds_key
    where
      go : (es : List Entry) → entries_at m p ≡ es → has k es ≡ true
          → any (same_key (last_at p).key) (keys_again us) ≡ false
      go [] q holds = absurd (false≢true holds)
      go (x ∷ xs) q holds =
          let l = last (keys (x ∷ xs)) 0 in
          let (front, ends) = front_last x.key (keys xs) in
          let js = step_keys (keys_again us) in
          let all : keys_at m n ≡ front ++ l ∷ js
          = r.splits
          ∙ ap (λ (es : List Entry). keys es ++ js) q
          ∙ ap (λ (ks : List ℕ). ks ++ js) ends
          ∙ append_snoc front l js in
          let alone = distinct-alone front l js (rw all at (good n h).differ) in
          let told : l ≡ (last (x ∷ xs) no_entry).key = last-map (λ e. e.key) (x ∷ xs) no_entry in
          let its : (last_at p).key ≡ l = ap (λ (es : List Entry). (last es no_entry).key) q ∙ sym told in
          same_key_any (last_at p).key (keys_again us) ∙ rw its alone.not_after

  -- A shape that yields leaves all yields.
  yield : (p : ℕ) (us ps ts : List Step) → Reached p us ps ts → prototype_step (shape_at m p) ≡ false
      → eqb (last_at p).key k ≡ false
      → (yields m k (shape_at m p) ts ≡ full_yield (last_at p) us)
      × (every good_insert (full_yield (last_at p) us) ≡ true)
  yield p us ps ts r not_prototype other = go r.come
    where
      e : Entry
      e = last_at p

      go : Come e us ts
          → (yields m k (shape_at m p) ts ≡ full_yield e us) × (every good_insert (full_yield e us) ≡ true)
      go (inl (y, quiet)) =
          let apart = not-again p us ps ts r in
          let good_last = every-last good_entry (entries_at m p) no_entry (good p r.is_shared).each refl in
          rw (quiet other e.attributes)
          (rw (not_prototype, other, y, apart) refl, both-and good_last (rw y at r.good_inserts))
      go (inr (y, _)) =
          (rw (not_prototype, other, y, eq-eqb e.key e.key refl) refl, rw y at r.good_inserts)

  -- Back from p to its previous q, where the walk does not end at p.
  module _ (p count : ℕ) (us ps ts : List Step) (r : Reached p us ps ts)
      (more : transitions_at m p ≡ suc count) where
    abbrev q : ℕ
    q = previous_at m p

    abbrev Rest : Type 0
    Rest =
        (us ps ts : List Step) → Reached q us ps ts
        → Found m n k (back m k (map (shape_at m) (backward count m q)) ps ts)

    abbrev Here : Type 0
    Here = Found m n k (back m k (map (shape_at m) (backward (suc count) m p)) ps ts)

    -- One step more is passed.
    parts_on : (t : Step) → made_by m p ≡ t → trail m n ≡ trail m q ++ t ∷ us
    parts_on t by =
        r.parts
        ∙ ap (λ (vs : List Step). vs ++ us) (trail-before m sound p count r.is_shared more)
        ∙ rw by (append_snoc (trail m q) t us)

    root_on : root m q ≡ root m n
    root_on = sym (root_before m sound p count r.is_shared more) ∙ r.same_root

    goes_on : (vs qs ws : List Step) → inserts m k (shape_at m p) ≡ false → remember (shape_at m p) ps ≡ qs
        → yields m k (shape_at m p) ts ≡ ws → Rest → Reached q vs qs ws → Here
    goes_on vs qs ws other re ye rest reached = rw (other, re, ye) (rest vs qs ws reached)

    remember_other : prototype_step (shape_at m p) ≡ false → remember (shape_at m p) ps ≡ ps
    remember_other e = go ps
      where
        go : (qs : List Step) → remember (shape_at m p) qs ≡ qs
        go [] = rw e
        go (x ∷ xs) = refl

    remember-newest : (to : ℕ) → prototype_step (shape_at m p) ≡ true → prototype_at m p ≡ to
        → remember (shape_at m p) ps ≡ newest_prototype (prototype to ∷ us)
    remember-newest to is its = rw r.newest (go (newest_prototype us))
      where
        go : (qs : List Step) → remember (shape_at m p) qs ≡ or_else qs (prototype to ∷ [])
        go [] = rw (is, its)
        go (x ∷ xs) = refl

    by_prototype : (to : ℕ) → made_by m p ≡ prototype to → Made m p count (prototype to) → Rest → Here
    by_prototype to by its rest =
        let is : prototype_step (shape_at m p) ≡ true = ap (λ (x : ℕ). eqb x 2) (sym its.its_kind) in
        let other : inserts m k (shape_at m p) ≡ false = rw (← its.its_kind) in
        let same = its.its_entries in
        goes_on (prototype to ∷ us) (newest_prototype (prototype to ∷ us)) ts other
        (remember-newest to is its.its_prototype) (rw is) rest record {
          is_shared = its.previous_shared;
          same_root = root_on;
          parts = parts_on (prototype to) by;
          holds_key = rw same at r.holds_key;
          splits = rw same at r.splits;
          newest = refl;
          good_inserts = r.good_inserts;
          come = rw same at r.come;
        }

    by_configure : (j b : ℕ) → made_by m p ≡ configure j b → Made m p count (configure j b) → Rest → Here
    by_configure j b by its rest = go (either (eqb (last_at p).key k))
      where
        not_prototype : prototype_step (shape_at m p) ≡ false
        not_prototype = ap (λ (x : ℕ). eqb x 2) (sym its.its_kind)

        stepped : entries_at m p ≡ configured (entries_at m q) j b
        stepped = its.its_entries

        same : keys_at m p ≡ keys_at m q
        same =
            ap keys stepped
            ∙ keys_stepped (configure j b) (entries_at m q)
            ∙ append-nil (keys_at m q)

        held : has k (entries_at m q) ≡ true
        held = sym (ap (has k) stepped ∙ has-configured k j b (entries_at m q)) ∙ r.holds_key

        lasts : last_at p ≡ (if is_key j (last_at q) then entry j b (last_at q).slot.0 else last_at q)
        lasts = ap (λ (es : List Entry). last es no_entry) stepped ∙ last-configured k j b (entries_at m q) held

        key : (last_at p).key ≡ (last_at q).key
        key = ap (λ (e : Entry). e.key) lasts ∙ (set_last j b (last_at q)).0

        attributes : (last_at p).attributes ≡ (if eqb j (last_at q).key then b else (last_at q).attributes)
        attributes = ap (λ (e : Entry). e.attributes) lasts ∙ (set_last j b (last_at q)).1

        full : full_yield (last_at p) us ≡ full_yield (last_at q) (configure j b ∷ us)
        full = rw (key, attributes)

        on : (ws : List Step) → (yields m k (shape_at m p) ts ≡ ws) × (every good_insert ws ≡ true)
            → Come (last_at q) (configure j b ∷ us) ws → Here
        on ws (ye, good_all) come =
            let other : inserts m k (shape_at m p) ≡ false = rw (← its.its_kind) in
            goes_on (configure j b ∷ us) ps ws other (remember_other not_prototype) ye rest record {
              is_shared = its.previous_shared;
              same_root = root_on;
              parts = parts_on (configure j b) by;
              holds_key = held;
              splits = rw same at r.splits;
              newest = r.newest;
              good_inserts = good_all;
              come = come;
            }

        skipped : eqb (last_at p).key k ≡ true → Come (last_at p) us ts → Come (last_at q) (configure j b ∷ us) ts
        skipped skip (inl (y, _)) = inl (y, λ other. not-both skip (ap (λ (x : ℕ). eqb x k) key ∙ other))
        skipped skip (inr (y, other)) = not-both skip other

        go : Decided (eqb (last_at p).key k) → Here
        go (inl skip) = on ts (rw (not_prototype, skip), r.good_inserts) (skipped skip r.come)
        go (inr other) =
            let (ye, good_all) = yield p us ps ts r not_prototype other in
            on (full_yield (last_at q) (configure j b ∷ us)) (ye ∙ full, ap (every good_insert) (sym full) ∙ good_all)
            (inr (refl, ap (λ (x : ℕ). eqb x k) (sym key) ∙ other))

    by_insert : (j a : ℕ) → made_by m p ≡ insert j a → Made m p count (insert j a) → Rest → Here
    by_insert j a by its rest = go (either (eqb j k))
      where
        not_prototype : prototype_step (shape_at m p) ≡ false
        not_prototype = ap (λ (x : ℕ). eqb x 2) (sym its.its_kind)

        lasts : last_at p ≡ entry j a (widths (entries_at m q))
        lasts =
            ap (λ (es : List Entry). last es no_entry) its.its_entries
            ∙ last-append (entries_at m q) (entry j a (widths (entries_at m q))) no_entry

        key_is : is_key k (last_at p) ≡ eqb j k
        key_is = ap (is_key k) lasts

        one_more : keys_at m p ≡ keys_at m q ++ j ∷ []
        one_more = ap keys its.its_entries ∙ keys_stepped (insert j a) (entries_at m q)

        splits : keys_at m n ≡ keys_at m q ++ j ∷ step_keys (keys_again us)
        splits =
            let ks = step_keys (keys_again us) in
            r.splits ∙ ap (λ (x : List ℕ). x ++ ks) one_more ∙ append_snoc (keys_at m q) j ks

        -- the key itself is not yielded
        all_yielded : eqb j k ≡ true → Come (last_at p) us ts → ts ≡ keys_again us
        all_yielded e (inl (y, _)) = y
        all_yielded e (inr (y, other)) = not-both e (sym key_is ∙ other)

        go : Decided (eqb j k) → Here
        go (inl e) =
            let same : j ≡ k = eqb-true j k e in
            let stop : inserts m k (shape_at m p) ≡ true = rw (← its.its_kind) (key_is ∙ e) in
            let all = all_yielded e r.come in
            rw stop record {
              attributes = a;
              later = us;
              parts = rw same at (parts_on (insert j a) by);
              base_shared = its.previous_shared;
              same_root = root_on;
              good_key = rw same at (and_both (good_key j) its.good).0;
              lacks = rw same at (not-true (has j (entries_at m q)) its.may);
              newest = r.newest;
              yielded = all;
              good_inserts = r.good_inserts;
              splits = rw (all, ← same) splits;
            }
        go (inr e) =
            let other : inserts m k (shape_at m p) ≡ false = rw (← its.its_kind) (key_is ∙ e) in
            let (ye, good_all) = yield p us ps ts r not_prototype (key_is ∙ e) in
            let all = ap (λ (x : Entry). full_yield x us) lasts in
            goes_on (insert j a ∷ us) ps (keys_again (insert j a ∷ us)) other (remember_other not_prototype) (ye ∙ all)
            rest
            record {
              is_shared = its.previous_shared;
              same_root = root_on;
              parts = parts_on (insert j a) by;
              holds_key = rw (its.its_entries, any_append, e, or-false) at r.holds_key;
              splits = splits;
              newest = r.newest;
              good_inserts = ap (every good_insert) (sym all) ∙ good_all;
              come = inl (refl, λ z b. refl);
            }

  walk : (count p : ℕ) (us ps ts : List Step) → transitions_at m p ≡ count → Reached p us ps ts
      → Found m n k (back m k (map (shape_at m) (backward count m p)) ps ts)
  walk zero p us ps ts e r =
      let none = (at-root m sound p r.is_shared e).no_entries in
      absurd (false≢true (ap (has k) (sym none) ∙ r.holds_key))
  walk (suc count) p us ps ts e r =
      go (made_by m p) refl its (λ vs qs ws. walk count (previous_at m p) vs qs ws its.one_less)
    where
      its : Made m p count (made_by m p)
      its = made m sound p count r.is_shared e

      go : (t : Step) → made_by m p ≡ t → Made m p count t → Rest p count us ps ts r e
          → Here p count us ps ts r e
      go (insert j a) by its rest = by_insert p count us ps ts r e j a by its rest
      go (configure j a) by its rest = by_configure p count us ps ts r e j a by its rest
      go (prototype to) by its rest = by_prototype p count us ps ts r e to by its rest

  found : has k (entries_at m n) ≡ true → Found m n k (rollback m n k)
  unfolding rollback chain
  found holds =
      walk (transitions_at m n) n [] [] [] refl record {
        is_shared = h;
        same_root = refl;
        parts = sym (append-nil (trail m n));
        holds_key = holds;
        splits = sym (append-nil (keys_at m n));
        newest = refl;
        good_inserts = refl;
        come = inl (refl, λ z a. refl);
      }

  -- ## The steps from the base

  newest_of : {b : Back} → Found m n k b → Newest m n b.base b.newest
  newest_of {b} f = rw f.newest (go (newest_prototype f.later) (newest_says f.later))
    where
      its : prototype_at m n ≡ steps_prototype f.later (prototype_at m b.base)
      its =
          (trail_contents m sound n h).its_prototype
          ∙ ap (λ (ts : List Step). steps_prototype ts 0) f.parts
          ∙ prototype_append (trail m b.base) (insert k f.attributes ∷ f.later) 0
          ∙ ap (steps_prototype f.later) (sym (trail_contents m sound b.base f.base_shared).its_prototype)

      go : (ps : List Step) → ByNewest f.later ps → Newest m n b.base ps
      go ps (inl (none, same)) = inl (none, its ∙ same (prototype_at m b.base))
      go ps (inr (x, one, leads)) =
          inr (one ∙ ap (λ (y : ℕ). prototype y ∷ []) (sym (its ∙ leads (prototype_at m b.base))))

  short_of : {b : Back} → Found m n k b
      → transitions_at m b.base + (length b.newest + length b.yielded) < transitions_at m n
  short_of {b} f =
      let long = trail-length m n in
      let base = trail-length m b.base in
      let parts = ap length f.parts ∙ length-append (trail m b.base) (insert k f.attributes ∷ f.later) in
      let again = again_long f.later in
      rw (f.newest, f.yielded) (omega arith)

  -- The remembered prototype step, if there is one, and then good inserts of distinct keys.
  from-base : (p : ℕ) (ps us : List Step) → Newest m n p ps → every good_insert us ≡ true
      → distinct (keys_at m p ++ step_keys us) ≡ true
      → LeadTo (ps ++ us) (entries_at m p) (prototype_at m p) (keys_at m p ++ step_keys us) (prototype_at m n)
  from-base p ps us (inl (none, same)) good_all differ =
      rw (none, same) (inserts_lead us (entries_at m p) (prototype_at m p) good_all differ)
  from-base p ps us (inr one) good_all differ =
      let lead = inserts_lead us (entries_at m p) (prototype_at m n) good_all differ in
      rw one
      record { legal = (refl, refl, lead.legal); its_keys = lead.its_keys; its_prototype = lead.its_prototype }

  -- The rollback before a held key.
  pub rolled_back : has k (entries_at m n) ≡ true → RolledBack m n k (rollback m n k)
  rolled_back holds =
      let b = rollback m n k in
      let f = found holds in
      let ks = keys_at m b.base in
      let js = step_keys b.yielded in
      let differ : distinct (ks ++ k ∷ js) ≡ true = rw f.splits at (good n h).differ in
      let alone = distinct-alone ks k js differ in
      let others = apart_distinct ks js alone.others in
      let newest = newest_of f in
      let short = short_of f in
      record {
        found = f;
        short = short;
        alone = alone;
        removal = rw (keys-without (entries_at m n) ks k js f.splits alone)
            (from-base b.base b.newest b.yielded newest f.good_inserts others);
        shorter = omega (arith, length-append b.newest b.yielded);
        change = λ a low. rw f.splits
            (from-base b.base b.newest (insert k a ∷ b.yielded) newest
            (both-and (both-and f.good_key low) f.good_inserts) differ);
        no_longer = λ a. omega (arith, length-append b.newest (insert k a ∷ b.yielded));
      }
