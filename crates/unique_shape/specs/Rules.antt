-- The rules for a unique shape, as code finds out which of their cases it is in.
-- Assumes nothing.
use Rattle.std.specs.Prelude.{Bool, true, false, List, ◌≡◌, refl, ℕ, None, Ok, Result, Some}
use Rattle.std.proofs.Math.Path.{sym}
use Rattle.std.proofs.Common.{◌∙◌}
use Rattle.slot.specs.Attributes.{same_width}
use Rattle.store.specs.Model.{Model, used, shape_at, put_table}
use Rattle.store.specs.Layout.{parse}
use Rattle.store.specs.Image.{Formed, Becomes, unchanged}
use Rattle.store.specs.declared.Shape.{Shape}
use Rattle.store.specs.declared.Entry.{Entry}
use Rattle.rules.specs.declared.Refusal.{Refusal}
use Rattle.rules.specs.Shapes.{attributes_in, configured, entries}
use Rattle.rules.specs.Unique.{emptied, replaced, remove_unique, change_unique}
use Rattle.rules.specs.Placing.{Places}
use Rattle.key_position.specs.Positions.{Stands}
use Rattle.property_table.specs.Lookup.{looked_up, looked_held, looked_attributes, looked_absent}
use Rattle.property_table.specs.Copies.{entries_in}
use Rattle.property_table.specs.OneKey.{key_at}
use Rattle.property_table.specs.declared.Property.{Property}
use Rattle.unique_shape.specs.OwnTable.{OwnTable}
use Rattle.unique_shape.specs.Replacing.{keys_copied}
use Rattle.unique_shape.specs.declared.KeyCopy.TheVariants.{Without, Changed}

module _ (before : List ℕ) (n : ℕ) where
  abbrev m : Model
  m = parse before

  abbrev es : List Entry
  es = entries (parse before) (shape_at (parse before) n)

  -- ## Removal and change, by what a lookup has answered

  module _ (k : ℕ) where
    pub remove_absent : Formed before → looked_up k es ≡ None
        → Places before before (remove_unique m n k) (Ok n)
    unfolding remove_unique
    remove_absent formed none = rw (looked_absent {k = k} {es = es} none).held (unchanged formed, refl)

    module _ {p : Property} (found : looked_up k es ≡ Some p) where
      pub its-entry : Stands k es p.position.0
      its-entry = looked_held found

      pub remove_held : (after : List ℕ) (x : Result ℕ Refusal) {s : Shape} → s ≡ shape_at m n
          → Places before after
          (replaced (emptied m n 0) s.prototype (keys_copied (Without p.position) es)) x
          → Places before after (remove_unique m n k) x
      unfolding remove_unique
      remove_held after x read done = rw its-entry.held (rw (read, its-entry.key) at done)

      module _ (a : ℕ) {same : Bool} (compared : same ≡ same_width p.slot.attributes.0 a) where
        width : {b : Bool} → same ≡ b → same_width (attributes_in k es) a ≡ b
        width e = rw (looked_attributes k es found) (sym compared ∙ e)

        pub change_same : {after : List ℕ} {s : Shape} → s ≡ shape_at m n → OwnTable m s → same ≡ true
            → Becomes before after
            (put_table m s.table
            (used (configured (entries_in before s.table)
            (key_at (entries_in before s.table) p.position.0) a)))
            → Places before after (change_unique m n k a) (Ok n)
        unfolding change_unique
        change_same read own e done =
            rw (width e) (rw (← own.whole, read, its-entry.key) at done, refl)

        pub change-moved : (after : List ℕ) (x : Result ℕ Refusal) {s : Shape} → s ≡ shape_at m n → same ≡ false
            → Places before after
            (replaced (emptied m n 0) s.prototype
            (keys_copied (Changed (record { position = p.position; attributes = record { 0 = a } })) es)) x
            → Places before after (change_unique m n k a) x
        unfolding change_unique
        change-moved after x read e done = rw (width e) (rw (read, its-entry.key) at done)
