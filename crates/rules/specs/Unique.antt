-- Document 01, "Unique shapes"; and each change of a shape in either state.
-- Assumes nothing.
use Rattle.std.specs.Prelude.{List, [], ℕ, ◌+◌, eqb, length}
use Rattle.std.specs.Prelude.{if◌then◌else◌}
use Rattle.slot.specs.Attributes.{same_width}
use Rattle.store.specs.Model.{Model, used, shape_at, put_shape, put_table}
use Rattle.store.specs.declared.Entry.{Entry}
use Rattle.rules.specs.declared.Refusal.TheVariants.{KeysFull}
use Rattle.rules.specs.Refusals.{Got, ok, ◌>>=◌, ◌>>◌, refuse}
use Rattle.rules.specs.Shapes.{has, attributes_in, appended, configured, without, laid, unique, table_of}
use Rattle.rules.specs.Shapes.{entries, unique_shape, with_properties}
use Rattle.rules.specs.Steps.{insert, prototype, Placed, step, remove_shared, change_shared, fresh}
use Rattle.rules.specs.Steps.{limited}

-- "the old one keeps its own table place, now with no entries", its number and its holds.
unfoldable pub emptied : Model → (place prototype : ℕ) → Model
emptied m n p =
    let s = shape_at m n in
    put_shape (put_table m s.table (used [])) n (unique_shape s.holds 0 p s.table)

-- "A new unique shape takes a new table".
abbrev pub replaced : Model → (prototype : ℕ) → List Entry → Got Placed
replaced m p es = fresh m (unique_shape 0 (length es) p) es

-- "Insert and equal-width change act on the same number."
unfoldable pub insert_unique : Model → (place key attributes : ℕ) → Got Placed
insert_unique m n k a = let s = shape_at m n in do
  refuse KeysFull (eqb s.properties m.K)
  ok (
    put_shape
        (put_table m s.table (used (appended (table_of m s) k a)))
        n
        (with_properties s (s.properties + 1)),
    n,
  )

-- "Removal and width change give a new shape with all slots worked out; the old one keeps its number with no keys
-- and prototype 0. .. Removing an absent key gives the same number."
unfoldable pub remove_unique : Model → (place key : ℕ) → Got Placed
remove_unique m n k =
    let s = shape_at m n in
    if has k (entries m s)
    then replaced (emptied m n 0) s.prototype (laid 0 (without (entries m s) k))
    else ok (m, n)

unfoldable pub change_unique : Model → (place key attributes : ℕ) → Got Placed
change_unique m n k a =
    let s = shape_at m n in
    let es = configured (entries m s) k a in
    if same_width (attributes_in k (entries m s)) a
    then ok (put_table m s.table (used es), n)
    else replaced (emptied m n 0) s.prototype (laid 0 es)

-- "Prototype change gives a new shape; the old one loses its keys but keeps its prototype."
unfoldable pub prototype_unique : Model → (place to : ℕ) → Got Placed
prototype_unique m n p =
    let s = shape_at m n in
    replaced (emptied m n s.prototype) p (entries m s)

-- ## A shape in either state

unfoldable pub inserted : Model → (place key attributes : ℕ) → Got Placed
inserted m n k a =
    if unique (shape_at m n) then insert_unique m n k a else (step m n (insert k a) >>= limited)

unfoldable pub changed : Model → (place key attributes : ℕ) → Got Placed
changed m n k a =
    if unique (shape_at m n) then change_unique m n k a else (change_shared m n k a >>= limited)

unfoldable pub removed : Model → (place key : ℕ) → Got Placed
removed m n k = if unique (shape_at m n) then remove_unique m n k else (remove_shared m n k >>= limited)

unfoldable pub rebased : Model → (place prototype : ℕ) → Got Placed
rebased m n p = if unique (shape_at m n) then prototype_unique m n p else (step m n (prototype p) >>= limited)
