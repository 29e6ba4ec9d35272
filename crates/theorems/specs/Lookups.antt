-- A lookup never answers a key at or past the property count.
-- Assumes nothing.
use Rattle.std.specs.Prelude.{not, ◌≢◌, ◌≡◌, refl, ℕ, ◌<◌, length, get_or}
use Rattle.std.proofs.Common.{inl, inr, sym, ◌∙◌, arith, eqb-true, length-take, get_or-take}
use Rattle.std.proofs.Math.Option.{Option, none, some}
use Rattle.std.proofs.Math.Path.{ap}
use Rattle.std.proofs.lemmas.Bool.{eqb-false}
use Rattle.store.specs.Model.{Model, no_entry, shape_at}
use Rattle.store.specs.PlaceLaws.{FirstOrNone, first_or_none, first_found, first-none}
use Rattle.store.specs.declared.Shape.{Shape}
use Rattle.store.specs.declared.Entry.{Entry}
use Rattle.rules.specs.declared.Refusal.TheVariants.{BadKey, NoShape}
use Rattle.rules.specs.Numbers.{good_key}
use Rattle.rules.specs.Refusals.{ok, ◌>>◌, refuse}
use Rattle.rules.specs.Shapes.{entry, is_key, table_of, entries}
use Rattle.rules.specs.Sweep.{found}
use Rattle.rules.specs.Calls.{ask, lookup, Answer, Found, NotFound, unheld, slot_of, perform, Yes, call}
use Rattle.rules.proofs.Settled.{guard_passed, same_given, call_answered}

-- The entry stands in the shape's table, below its property count.
pub record OwnEntry (m : Model) (s : Shape) (e : Entry) : Type 0 where
  pub position : ℕ
  pub below : position < s.properties
  pub inside : position < length (table_of m s)
  pub there : get_or (table_of m s) position no_entry ≡ e

module _ (m : Model) (s : Shape) (k : ℕ) where
  -- What is found is the shape's own, and has that key.
  found_own : (e : Entry) → found k (entries m s) ≡ some e → OwnEntry m s e × (e.key ≡ k)
  found_own e h = go (first_or_none (is_key k) no_entry (entries m s))
    where
      go : FirstOrNone (is_key k) no_entry (entries m s) → OwnEntry m s e × (e.key ≡ k)
      go (inl (p, f)) =
          let l = f.inside in
          let n = length-take s.properties (table_of m s) in
          let below : p < s.properties = omega arith in
          let its : get_or (entries m s) p no_entry ≡ e = cc (first_found (is_key k) no_entry (entries m s) p f) in
          let there = sym (get_or-take s.properties (table_of m s) p no_entry below) ∙ its in
          let inside : p < length (table_of m s) = omega arith in
          let own : OwnEntry m s e = record { position = p; below = below; inside = inside; there = there } in
          (own, eqb-true e.key k (rw its at f.passes))
      go (inr n) =
          let z : ◌≡◌ {A = ℕ} 0 1 = cc (first-none (is_key k) no_entry (entries m s) n) in absurd (omega arith)

  -- Where nothing is found, no entry of the shape's own has that key.
  pub none_own : (e : Entry) → found k (entries m s) ≡ none → OwnEntry m s e → e.key ≢ k
  none_own e h o q = go (first_or_none (is_key k) no_entry (entries m s))
    where
      go : FirstOrNone (is_key k) no_entry (entries m s) → ⊥
      go (inl (p, f)) =
          let z : ◌≡◌ {A = ℕ} 0 1 = cc (first_found (is_key k) no_entry (entries m s) p f) in omega arith
      go (inr n) =
          let inside = o.inside in
          let below = o.below in
          let l : o.position < length (entries m s) = rw length-take (omega arith) in
          let its = get_or-take s.properties (table_of m s) o.position no_entry below ∙ o.there in
          eqb-false e.key k (rw its at (n o.position l)) q

module _ (m : Model) (n k : ℕ) where
  -- Whatever lookup answers is what is found.
  what_is_found : (a : Answer) → (call m (ask n (lookup k))).1 ≡ Yes a
      → slot_of (found k (entries m (shape_at m n))) ≡ a
  unfolding perform
  what_is_found a e =
      let answer : Model × Answer = (m, slot_of (found k (entries m (shape_at m n)))) in
      let performed = (call_answered m (ask n (lookup k)) a e).1 in
      let below = refuse NoShape (unheld m n) >> ok answer in
      let good = guard_passed BadKey (not (good_key k)) below _ performed in
      let held = guard_passed NoShape (unheld m n) (ok answer) _ good.1 in
      ap (λ (p : Model × Answer). p.1) (same_given held.1)

  -- A slot that lookup answers is that of an entry of the shape's own, with that key,
  pub lookup_own : (x a : ℕ) → (call m (ask n (lookup k))).1 ≡ Yes (Found x a)
      → OwnEntry m (shape_at m n) (entry k a x)
  lookup_own x a h = go (found k (entries m (shape_at m n))) refl (what_is_found (Found x a) h)
    where
      go : (o : Option Entry) → found k (entries m (shape_at m n)) ≡ o → slot_of o ≡ Found x a
          → OwnEntry m (shape_at m n) (entry k a x)
      go none f e = let z : ◌≡◌ {A = ℕ} 0 1 = cc in absurd (omega arith)
      go (some own) f e =
          let (stands, key) = found_own m (shape_at m n) k own f in
          let slot : own.slot.0 ≡ x = cc in
          let attributes : own.attributes ≡ a = cc in
          rw (← key, ← attributes, ← slot) stands

  -- and where it answers that there is none, no entry of the shape's own has that key.
  pub lookup_none : (call m (ask n (lookup k))).1 ≡ Yes NotFound
      → (e : Entry) → OwnEntry m (shape_at m n) e → e.key ≢ k
  lookup_none h e =
      none_own m (shape_at m n) k e (go (found k (entries m (shape_at m n))) (what_is_found NotFound h))
    where
      go : (o : Option Entry) → slot_of o ≡ NotFound → o ≡ none
      go none e = refl
      go (some own) e = let z : ◌≡◌ {A = ℕ} 0 1 = cc in absurd (omega arith)
