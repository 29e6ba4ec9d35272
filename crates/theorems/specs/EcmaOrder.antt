-- Key order is ECMA-262's, call by call: where a property list stands for a shape, the list that ECMA-262's
-- operation makes of it stands for the answer of each call on that shape.
-- Assumes nothing.
use Rattle.std.specs.Prelude.{Bool, true, false, not, List, [], ◌∷◌, ◌++◌, map, ◌≢◌, ◌≡◌, refl, ℕ, eqb}
use Rattle.std.proofs.lemmas.List.{map-append}
use Rattle.std.proofs.Common.{sym, ◌∙◌, ap, ap₂, eqb-true}
use Rattle.std.specs.Prelude.{if◌then◌else◌}
use Rattle.store.specs.Lists.{keep}
use Rattle.store.specs.Model.{Model}
use Rattle.store.specs.ListLaws.{keep-map}
use Rattle.store.specs.declared.Entry.{Entry}
use Rattle.rules.specs.declared.ChangeTransitionAction.{ChangeTransitionAction}
use Rattle.rules.specs.Numbers.{kind_of}
use Rattle.rules.specs.Shapes.{without}
use Rattle.rules.specs.Steps.{Step, insert, configure, prototype, step_entries}
use Rattle.rules.specs.Sweep.{keys_of_kind, key_list}
use Rattle.rules.specs.Trails.{trail}
use Rattle.rules.specs.Ecma.{Properties, named, create, change, delete, own_property_keys}
use Rattle.rules.specs.Calls.{new_root, new_unique, insert_key, change_key, remove_key, change_prototype, hold}
use Rattle.rules.specs.Calls.{previous}
use Rattle.theorems.specs.Facts.{Sound}
use Rattle.theorems.specs.Entries.{keys}
use Rattle.theorems.specs.Made.{entries_at}
use Rattle.theorems.specs.InTurn.{steps_entries}
use Rattle.theorems.specs.SameTrail.{trail_contents}
use Rattle.theorems.specs.Keys.{keys-configured, keys_stepped}
use Rattle.theorems.specs.CallsDo.{Says, root_does, unique_does, hold_does, insert_does, change_does}
use Rattle.theorems.specs.CallsDo.{removal_does, prototype_does, previous_does}

-- ## Statements

abbrev pub property_keys : Properties → List ℕ
property_keys ps = map (λ p. p.key) ps

-- The property list stands for the shape at n: the same keys in the same order. Attributes may differ from
-- ECMA-262's (document 01, lesson 4: "ECMA-262 would keep 5"); keys and their order may not.
abbrev pub StandsFor : Model → (n : ℕ) → Properties → Type 0
StandsFor m n ps = keys (entries_at m n) ≡ property_keys ps

-- What ECMA-262's operations build along steps: an insert creates, a configure changes.
abbrev pub built : List Step → Properties → Properties
built [] ps = ps
built (insert k a ∷ ts) ps = built ts (create k a ps)
built (configure k a ∷ ts) ps = built ts (change k a ps)
built (prototype p ∷ ts) ps = built ts ps

-- ## The keys that each operation leaves

create-keys : (k a : ℕ) (ps : Properties) → property_keys (create k a ps) ≡ property_keys ps ++ k ∷ []
create-keys k a ps = map-append (λ p. p.key) ps (record { key = k; attributes = a } ∷ [])

change-keys : (k a : ℕ) (ps : Properties) → property_keys (change k a ps) ≡ property_keys ps
change-keys k a [] = refl
change-keys k a (p ∷ ps) = go (named k p) refl (change-keys k a ps)
  where
    go : (b : Bool) → named k p ≡ b → property_keys (change k a ps) ≡ property_keys ps
        → property_keys ((if b then record { key = k; attributes = a } else p) ∷ change k a ps)
        ≡ property_keys (p ∷ ps)
    go true q again = ap₂ ◌∷◌ (sym (eqb-true p.key k q)) again
    go false q again = ap (λ (ks : List ℕ). p.key ∷ ks) again

abbrev others : (key : ℕ) → List ℕ → List ℕ
others k ks = keep (λ j. not (eqb j k)) ks

delete-keys : (k : ℕ) (ps : Properties) → property_keys (delete k ps) ≡ others k (property_keys ps)
delete-keys k ps = sym (keep-map (λ j. not (eqb j k)) (λ p. p.key) ps)

without-keys : (k : ℕ) (es : List Entry) → keys (without es k) ≡ others k (keys es)
without-keys k es = sym (keep-map (λ j. not (eqb j k)) (λ e. e.key) es)

built-keys : (ts : List Step) (es : List Entry) (ps : Properties) → keys es ≡ property_keys ps
    → keys (steps_entries ts es) ≡ property_keys (built ts ps)
built-keys [] es ps e = e
built-keys (insert k a ∷ ts) es ps e =
    built-keys ts (step_entries (insert k a) es) (create k a ps)
    (keys_stepped (insert k a) es ∙ ap (λ (ks : List ℕ). ks ++ k ∷ []) e ∙ sym (create-keys k a ps))
built-keys (configure k a ∷ ts) es ps e =
    built-keys ts (step_entries (configure k a) es) (change k a ps)
    (keys-configured es k a ∙ e ∙ sym (change-keys k a ps))
built-keys (prototype p ∷ ts) es ps e = built-keys ts es ps e

-- ## The key list of a shape

-- The key list is OrdinaryOwnPropertyKeys of any list that stands for the shape.
pub stands_keys : (m : Model) (n : ℕ) (ps : Properties) → StandsFor m n ps
    → key_list (entries_at m n) ≡ own_property_keys ps
stands_keys m n ps e =
    ap (λ (ks : List ℕ). keys_of_kind 0 ks ++ keys_of_kind 1 ks) e
    ∙ ap₂ ◌++◌
    (keep-map (λ k. eqb (kind_of k) 0) (λ p. p.key) ps)
    (keep-map (λ k. eqb (kind_of k) 1) (λ p. p.key) ps)

-- ## Call by call

module _ (m : Model) (sound : Sound m) {j : Model} {c : ℕ} {given : ChangeTransitionAction} {count : ℕ} where
  -- A new root or unique: no property.
  pub root_stands : Says m new_root j c given count → StandsFor j c []
  root_stands e = ap keys (root_does m sound e).0.contents.its_entries

  pub unique_stands : Says m new_unique j c given count → StandsFor j c []
  unique_stands e = ap keys (unique_does m sound e).0.contents.its_entries

  -- An insert creates the property,
  pub insert_stands : (n k a : ℕ) (ps : Properties) → Says m (insert_key n k a) j c given count
      → StandsFor m n ps → StandsFor j c (create k a ps)
  insert_stands n k a ps e s =
      (insert_does m sound n k a e).its_keys ∙ ap (λ (ks : List ℕ). ks ++ k ∷ []) s ∙ sym (create-keys k a ps)

  -- a change of attributes changes it,
  pub change_stands : (n k a : ℕ) (ps : Properties) → Says m (change_key n k a) j c given count
      → StandsFor m n ps → StandsFor j c (change k a ps)
  change_stands n k a ps e s = (change_does m sound n k a e).0.its_keys ∙ s ∙ sym (change-keys k a ps)

  -- a removal deletes it,
  pub removal_stands : (n k : ℕ) (ps : Properties) → Says m (remove_key n k) j c given count
      → StandsFor m n ps → StandsFor j c (delete k ps)
  removal_stands n k ps e s =
      (removal_does m sound n k e).its_keys
      ∙ without-keys k (entries_at m n)
      ∙ ap (others k) s
      ∙ sym (delete-keys k ps)

  -- and a change of prototype and a hold leave the properties.
  pub prototype_stands : (n p : ℕ) (ps : Properties) → Says m (change_prototype n p) j c given count
      → StandsFor m n ps → StandsFor j c ps
  prototype_stands n p ps e s = (prototype_does m sound n p e).its_keys ∙ s

  pub hold_stands : (n : ℕ) (ps : Properties) → Says m (hold n) j c given count
      → StandsFor m n ps → StandsFor j c ps
  hold_stands n ps e s =
      let (_, its, a) = hold_does m sound n e in
      rw its (ap keys a.contents.its_entries ∙ s)

  -- A previous that is there has the properties that its trail builds.
  pub previous_stands : (n : ℕ) → Says m (previous n) j c given count → c ≢ 0
      → StandsFor j c (built (trail m c) [])
  previous_stands n e there =
      let (is_shared, a) = (previous_does m sound n e).some there in
      ap keys (a.contents.its_entries ∙ (trail_contents m sound c is_shared).its_entries)
      ∙ built-keys (trail m c) [] [] refl
