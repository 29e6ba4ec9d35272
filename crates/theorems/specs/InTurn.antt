-- Steps taken in turn, over entries alone: what they lead to, and that each may be taken where it is.
-- Assumes nothing.
use Rattle.std.specs.Prelude.{true, List, [], ◌∷◌, ◌++◌, ◌≡◌, refl, ℕ}
use Rattle.store.specs.declared.Entry.{Entry}
use Rattle.rules.specs.Steps.{Step, may_step, step_entries, step_prototype}
use Rattle.theorems.specs.Made.{good_step}

-- The entries and the prototype that steps lead to.
abbrev pub steps_entries : List Step → List Entry → List Entry
steps_entries [] es = es
steps_entries (t ∷ ts) es = steps_entries ts (step_entries t es)

abbrev pub steps_prototype : List Step → ℕ → ℕ
steps_prototype [] p = p
steps_prototype (t ∷ ts) p = steps_prototype ts (step_prototype t p)

-- Each step is good and may be taken from the entries that the steps before it lead to.
abbrev pub LegalInTurn : List Step → List Entry → Type 0
LegalInTurn [] es = Unit {0}
LegalInTurn (t ∷ ts) es = (good_step t ≡ true) × (may_step t es ≡ true) × LegalInTurn ts (step_entries t es)

-- ## Steps and then others

pub entries-append : (ts us : List Step) (es : List Entry)
    → steps_entries (ts ++ us) es ≡ steps_entries us (steps_entries ts es)
entries-append [] us es = refl
entries-append (t ∷ ts) us es = entries-append ts us (step_entries t es)

pub prototype_append : (ts us : List Step) (p : ℕ)
    → steps_prototype (ts ++ us) p ≡ steps_prototype us (steps_prototype ts p)
prototype_append [] us p = refl
prototype_append (t ∷ ts) us p = prototype_append ts us (step_prototype t p)

pub legal_append : (ts us : List Step) (es : List Entry) → LegalInTurn ts es
    → LegalInTurn us (steps_entries ts es) → LegalInTurn (ts ++ us) es
legal_append [] us es l k = k
legal_append (t ∷ ts) us es (good, may, l) k = (good, may, legal_append ts us (step_entries t es) l k)
