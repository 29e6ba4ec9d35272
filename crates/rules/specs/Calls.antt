-- The calls of document 01: what each gives, and its refusals in the table's order.
-- Assumes nothing.
use Rattle.std.specs.Prelude.{Bool, ◌&&◌, ◌||◌, not, List, [], ◌∷◌, ◌++◌, ℕ, ◌+◌, ◌-◌, eqb, ltb, leb, length, drop}
use Rattle.std.proofs.Math.Option.{Option, none, some}
use Rattle.std.specs.Prelude.{if◌then◌else◌}
use Rattle.slot.specs.Attributes.{good_attributes, width}
use Rattle.store.specs.Model.{Model, free_shape, free_table, shape_at, put_shape}
use Rattle.store.specs.Layout.{formattable, formatted, words, parse}
use Rattle.store.specs.declared.Limits.{Limits}
use Rattle.store.specs.declared.Entry.{Entry}
use Rattle.rules.specs.declared.ChangeTransitionAction.{ChangeTransitionAction}
use Rattle.rules.specs.declared.ChangeTransitionAction.TheVariants.{Nothing, Remove, Insert}
use Rattle.rules.specs.declared.Refusal.{Refusal}
use Rattle.rules.specs.declared.Refusal.TheVariants.{Damaged, BadKey, BadAttributes, NoShape, Present}
use Rattle.rules.specs.declared.Refusal.TheVariants.{Absent, HoldsFull, BadSize, OutShort}
use Rattle.rules.specs.Numbers.{good_key}
use Rattle.rules.specs.Shapes.{has, attributes_in, shared, entries, root_shape, unique_shape, with_holds}
use Rattle.rules.specs.Refusals.{Got, ok, refused, ◌>>=◌, ◌>>◌, refuse}
use Rattle.rules.specs.Steps.{Placed, fresh}
use Rattle.rules.specs.Unique.{inserted, changed, removed, rebased}
use Rattle.rules.specs.Sound.{sound_model, sound_words}
use Rattle.rules.specs.Sweep.{held, swept, in_use, found, key_list}

-- ## Calls and answers

-- What is asked of a held shape.
pub data Question : Type 0 where
  lookup : (key : ℕ) → Question
  keys_into : (out : List ℕ) → Question
  prototype_of is_shared transitions_of properties_of : Question

pub data Call : Type 0 where
  new_root new_unique : Call
  insert_key change_key : (shape key attributes : ℕ) → Call
  remove_key : (shape key : ℕ) → Call
  change_prototype : (shape to : ℕ) → Call
  hold release previous : (shape : ℕ) → Call
  sweep : Call
  ask : (shape : ℕ) → Question → Call

pub data Answer : Type 0 where
  Given : (shape : ℕ) → ChangeTransitionAction → (transitions : ℕ) → Answer
  Freed : (shapes tables : ℕ) → Answer
  Done : Answer
  Found : (slot attributes : ℕ) → Answer
  NotFound : Answer
  Listed : (count : ℕ) (out : List ℕ) → Answer
  Number : ℕ → Answer

-- ## Their parts

-- NoShape: "place 0, above S, free, or without holds"
abbrev pub unheld : Model → ℕ → Bool
unheld m n = free_shape (shape_at m n) || not (held (shape_at m n))

-- "A call that returns a shape adds one hold to it"; HoldsFull: "the result already has 65,535 holds".
abbrev pub grant : ChangeTransitionAction → Placed → Got (Model × Answer)
grant action (m, n) = let s = shape_at m n in do
  refuse HoldsFull (leb 65535 s.holds)
  ok (put_shape m n (with_holds s (s.holds + 1)), Given n action s.transitions)

-- The hold comes when the rule has given its result.
abbrev pub then_grant : ChangeTransitionAction → Got Placed → Got (Model × Answer)
then_grant action rule = rule >>= grant action

-- "accessor to data is Remove, data to accessor Insert"; equal width "Nothing".
abbrev pub action_for : (old new : ℕ) → ChangeTransitionAction
action_for old new =
    if eqb (width old) (width new) then Nothing
    else if eqb (width old) 2 then Remove
    else Insert

-- "hold and previous (0, no hold, at a root or unique)"
abbrev pub grant_previous : Model → ℕ → Got (Model × Answer)
grant_previous m n = if eqb n 0 then ok (m, Given 0 Nothing 0) else grant Nothing (m, n)

-- "Release takes one."
abbrev pub release_one : Model → ℕ → Model
release_one m n = let s = shape_at m n in put_shape m n (with_holds s (s.holds - 1))

-- "It answers how many shapes and tables it freed."
abbrev pub freed : (before after : Model) → Answer
freed m m₁ =
    Freed
    (in_use free_shape m.shapes - in_use free_shape m₁.shapes)
    (in_use free_table m.tables - in_use free_table m₁.tables)

abbrev pub slot_of : Option Entry → Answer
slot_of none = NotFound
slot_of (some e) = Found e.slot.0 e.attributes

-- "written at the front of a lent slice, the rest of it unchanged"
abbrev pub list_into : (keys out : List ℕ) → Answer
list_into ks out = Listed (length ks) (ks ++ drop (length ks) out)

-- ## What each call does

unfoldable pub perform : Model → Call → Got (Model × Answer)
perform m new_root = fresh m root_shape [] >>= grant Nothing
perform m new_unique = fresh m (unique_shape 0 0 0) [] >>= grant Nothing
perform m (insert_key n k a) = do
  refuse BadKey (not (good_key k))
  refuse BadAttributes (not (good_attributes a))
  refuse NoShape (unheld m n)
  refuse Present (has k (entries m (shape_at m n)))
  inserted m n k a >>= grant Nothing
perform m (change_key n k a) = let es = entries m (shape_at m n) in do
  refuse BadKey (not (good_key k))
  refuse BadAttributes (not (good_attributes a))
  refuse NoShape (unheld m n)
  refuse Absent (not (has k es))
  changed m n k a >>= grant (action_for (attributes_in k es) a)
perform m (remove_key n k) = let s = shape_at m n in do
  refuse BadKey (not (good_key k))
  refuse NoShape (unheld m n)
  refuse Absent (shared s && not (has k (entries m s)))
  removed m n k >>= grant Nothing
perform m (change_prototype n p) = do
  refuse NoShape (unheld m n)
  rebased m n p >>= grant Nothing
perform m (hold n) = do
  refuse NoShape (unheld m n)
  grant Nothing (m, n)
perform m (release n) = do
  refuse NoShape (unheld m n)
  ok (release_one m n, Done)
perform m (previous n) = do
  refuse NoShape (unheld m n)
  grant_previous m (shape_at m n).previous
perform m sweep = let m₁ = swept m in ok (m₁, freed m m₁)
perform m (ask n (lookup k)) = do
  refuse BadKey (not (good_key k))
  refuse NoShape (unheld m n)
  ok (m, slot_of (found k (entries m (shape_at m n))))
perform m (ask n (keys_into out)) = let ks = key_list (entries m (shape_at m n)) in do
  refuse NoShape (unheld m n)
  refuse OutShort (ltb (length out) (length ks))
  ok (m, list_into ks out)
perform m (ask n prototype_of) = do
  refuse NoShape (unheld m n)
  ok (m, Number (shape_at m n).prototype)
perform m (ask n is_shared) = do
  refuse NoShape (unheld m n)
  ok (m, Number (if shared (shape_at m n) then 1 else 0))
perform m (ask n transitions_of) = do
  refuse NoShape (unheld m n)
  ok (m, Number (shape_at m n).transitions)
perform m (ask n properties_of) = do
  refuse NoShape (unheld m n)
  ok (m, Number (shape_at m n).properties)

-- ## A call, refused or not

pub data Reply : Type 0 where
  No : Refusal → Reply
  Yes : Answer → Reply

-- "Every one returns its number and 0 for all else, and leaves all lent words unchanged, prunes included."
abbrev pub settle : {A : Type 0} → A → Got (A × Answer) → A × Reply
settle before (ok (after, a)) = (after, Yes a)
settle before (refused r) = (before, No r)

-- "Each call tests soundness first."
unfoldable pub call : Model → Call → Model × Reply
call m c = settle m (if sound_model m then perform m c else refused Damaged)

-- The same on the lent words.
unfoldable pub call_on : List ℕ → Call → List ℕ × Reply
call_on ws c = let r = call (parse ws) c in if sound_words ws then (words r.0, r.1) else (ws, No Damaged)

unfoldable pub after : Model → List Call → Model
after m [] = m
after m (c ∷ cs) = after (call m c).0 cs

-- ## Formatting

-- BadSize: "formatting"
abbrev pub formatting : Limits → List ℕ → Got (List ℕ × Answer)
formatting l ws = do
  refuse BadSize (not (formattable l ws))
  ok (formatted l, Done)

unfoldable pub format : Limits → List ℕ → List ℕ × Reply
format l ws = settle ws (formatting l ws)
