-- ECMA-262's ordinary objects, as far as the order of their keys goes: OrdinaryOwnPropertyKeys (10.1.11.1)
-- without its index part. Written from that document, and from no program.
-- Assumes nothing.
use Rattle.std.specs.Prelude.{Bool, not, List, [], ◌∷◌, ◌++◌, map, ℕ, eqb}
use Rattle.std.specs.Prelude.{if◌then◌else◌}
use Rattle.store.specs.Lists.{keep}
use Rattle.rules.specs.Numbers.{kind_of}

pub record Property : Type 0 where
  pub key : ℕ
  pub attributes : ℕ

-- An object's own properties, "in ascending chronological order of property creation".
abbrev pub Properties : Type 0
Properties = List Property

abbrev pub named : ℕ → Property → Bool
named k p = eqb p.key k

-- A property is created: it is the newest.
abbrev pub create : (key attributes : ℕ) → Properties → Properties
create k a ps = ps ++ record { key = k; attributes = a } ∷ []

-- Its attributes change: it was created when it was.
abbrev pub change : (key attributes : ℕ) → Properties → Properties
change k a ps = map (λ p. if named k p then record { key = k; attributes = a } else p) ps

-- "Remove the own property with name P from O."
abbrev pub delete : (key : ℕ) → Properties → Properties
delete k ps = keep (λ p. not (named k p)) ps

-- Keys of kind 0 are the strings that are no array index; keys of kind 1 are the symbols.
abbrev pub is_string : Property → Bool
is_string p = eqb (kind_of p.key) 0

abbrev pub is_symbol : Property → Bool
is_symbol p = eqb (kind_of p.key) 1

-- Step 3: each own property key that is a String and is not an array index, in ascending chronological order of
-- property creation. Step 4: each that is a Symbol, in that order. (Step 2, array indexes, is left out.)
abbrev pub own_property_keys : Properties → List ℕ
own_property_keys ps = map (λ p. p.key) (keep is_string ps) ++ map (λ p. p.key) (keep is_symbol ps)
