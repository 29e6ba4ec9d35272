-- Document 01, "When a call says no": the refusals, and how a rule says one.
-- Assumes nothing.
use Rattle.std.specs.Prelude.{Bool, true, false, List, ℕ, eqb}
use Rattle.store.specs.Lists.{lowest}
use Rattle.rules.specs.declared.Refusal.{Refusal}
use Rattle.rules.specs.declared.Refusal.TheVariants.{Damaged, BadKey, BadAttributes, NoShape, Present}
use Rattle.rules.specs.declared.Refusal.TheVariants.{Absent, KeysFull, ShapesFull, TablesFull}
use Rattle.rules.specs.declared.Refusal.TheVariants.{EdgesFull, HoldsFull, BadSize, OutShort}

-- The table's first two columns.
abbrev pub refusal_number : Refusal → ℕ
refusal_number Damaged = 1
refusal_number BadKey = 2
refusal_number BadAttributes = 3
refusal_number NoShape = 4
refusal_number Present = 5
refusal_number Absent = 6
refusal_number KeysFull = 7
refusal_number ShapesFull = 8
refusal_number TablesFull = 9
refusal_number EdgesFull = 10
refusal_number HoldsFull = 11
refusal_number BadSize = 12
refusal_number OutShort = 13

-- What a rule gives: its result, or a refusal.
pub data Got (A : Type 0) : Type 0 where
  ok : A → Got A
  refused : Refusal → Got A

-- A refusal ends a rule: what stands below it is not done.
module _ {A B : Type 0} where
  infixl 10 ◌>>=◌
  abbrev pub ◌>>=◌ : Got A → (A → Got B) → Got B
  ok a >>= f = f a
  refused r >>= f = refused r

  infixl 10 ◌>>◌
  abbrev pub ◌>>◌ : Got A → Got B → Got B
  ok a >> b = b
  refused r >> b = refused r

-- "each given exactly in the stated event"
abbrev pub refuse : Refusal → (event : Bool) → Got (Unit {0})
refuse r true = refused r
refuse r false = ok tt

-- "The lowest free place is always taken", or the refusal if there is none.
abbrev pub place : {A : Type 0} → Refusal → (free : A → Bool) → List A → Got ℕ
place r free xs = let n = lowest free 1 xs in do
  refuse r (eqb n 0)
  ok n
