-- What a lookup answers, found or not.
-- Assumes nothing.
use Rattle.std.specs.Prelude.{true, ◌≡◌, refl, ℕ, None, Some}
use mathlib.Core.List.{List}
use Rattle.store.specs.Model.{shape_at}
use Rattle.store.specs.Layout.{parse}
use Rattle.store.specs.Image.{Formed, unchanged}
use Rattle.store.specs.declared.Shape.{Shape}
use Rattle.store.specs.declared.Entry.{Entry}
use Rattle.rules.specs.Numbers.{good_key}
use Rattle.rules.specs.Shapes.{entries}
use Rattle.rules.specs.Calls.{Found, NotFound, Yes, ask, perform, lookup}
use Rattle.rules.specs.Replies.{Answers}
use Rattle.property_table.specs.Lookup.{looked_up, looked_held, looked_slot, looked_absent}
use Rattle.property_table.specs.declared.Property.{Property}
use Rattle.holds.specs.Granted.{Named}

module _ {ws : List ℕ} (formed : Formed ws) {n : ℕ} {s : Shape} (its : Named (parse ws) n s)
    (k : ℕ) (good : good_key k ≡ true) where
  abbrev es : List Entry
  es = entries (parse ws) (shape_at (parse ws) n)

  pub lookup_finds : {p : Property} → looked_up k es ≡ Some p
      → let s = p.slot in
      Answers ws ws (perform (parse ws) (ask n (lookup k))) (Yes (Found s.index.0 s.attributes.0))
  unfolding perform
  lookup_finds looked =
      let answer = (looked_held {k = k} {es = es} looked).answer in
      rw (good, its.may, answer, looked_slot k es looked) (unchanged formed, refl)

  pub lookup_finds_nothing : looked_up k es ≡ None
      → Answers ws ws (perform (parse ws) (ask n (lookup k))) (Yes NotFound)
  unfolding perform
  lookup_finds_nothing looked =
      let h = looked_absent {k = k} {es = es} looked in
      rw (good, its.may, h.answer) (unchanged formed, refl)
