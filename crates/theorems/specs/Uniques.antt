-- The rules for unique shapes: the model stays sound, and every shape but the one acted on is kept.
-- Assumes nothing.
use Rattle.std.specs.Prelude.{Bool, true, false, not, ◌≢◌, ◌≡◌, ℕ, ◌+◌, ◌≤◌, eqb, length}
use Rattle.std.proofs.Math.Bool.{and-false}
use mathlib.Core.List.{List, []}
use Rattle.std.proofs.Common.{inl, inr, sym, ◌∙◌, arith, take_all}
use Rattle.std.proofs.Math.Path.{refl, ap}
use borrow.Author.Tests.{eqb-false}
use Rattle.std.specs.Prelude.{if◌then◌else◌}
use Rattle.slot.specs.Attributes.{good_attributes, same_width}
use Rattle.store.specs.Model.{used, Model, shape_at, table_at, put_shape, put_table}
use Rattle.store.specs.ListLaws.{and_both, Decided, either, not-both}
use Rattle.store.specs.declared.Limits.{Limits}
use Rattle.store.specs.declared.Shape.{Shape}
use Rattle.store.specs.declared.Entry.{Entry}
use Rattle.rules.specs.declared.Refusal.TheVariants.{KeysFull}
use Rattle.rules.specs.Numbers.{good_key}
use Rattle.rules.specs.Shapes.{has, attributes_in, appended, configured, without, laid, shared, unique}
use Rattle.rules.specs.Shapes.{table_of, entries, unique_shape, with_properties}
use Rattle.rules.specs.Refusals.{ok}
use Rattle.rules.proofs.Settled.{guard_passed, same_given}
use Rattle.rules.specs.Steps.{Placed}
use Rattle.rules.specs.Sound.{good_entries}
use Rattle.rules.specs.Unique.{emptied, replaced, insert_unique, remove_unique, change_unique, prototype_unique}
use Rattle.theorems.specs.Facts.{Used, GoodTable, Sound, unique_used, used_table, shared-not-unique}
use Rattle.theorems.specs.Entries.{good_appended, length-appended, good_configured, length-configured}
use Rattle.theorems.specs.Entries.{good_changed, good_without, length_without, laid_without_absent}
use Rattle.theorems.specs.Entries.{length-laid}
use Rattle.theorems.specs.Frame.{Keeps, keeps_self, keeps_again, kept_used}
use Rattle.theorems.specs.Grow.{FreshShape, fresh_keeps, fresh-unique}
use Rattle.theorems.specs.Made.{prototype_at, Contents, kept_contents}
use Rattle.theorems.specs.Retabled.{Retabled, Others, retabled_keeps, retabled_entries, table-put}
use Rattle.theorems.specs.Retabled.{both_stands, both-put}

-- A unique that has given its keys to another is still there and unique, without keys and with the prototype q.
pub record Emptied (m : Model) (n q : ℕ) : Type 0 where
  pub is_used : Used m n
  pub is_unique : unique (shape_at m n) ≡ true
  pub contents : Contents m n [] q

-- The unique at n and the one at c that a rule gives: the same number, or another and the old one emptied.
abbrev pub OldOne : (same : Bool) → Model → (n q c : ℕ) → Type 0
OldOne true m n q c = c ≡ n
OldOne false m n q c = (c ≢ n) × Emptied m n q

-- What a rule for the unique shape at n leaves: a unique shape with the entries fs and the prototype p as its
-- result, and every other shape kept.
pub record Acted (m : Model) (n : ℕ) (fs : List Entry) (p : ℕ) (same : Bool) (q : ℕ) (y : Placed)
    : Type 0 where
  pub keeps : Keeps m y.0 (Others m n)
  pub is_unique : unique (shape_at y.0 y.1) ≡ true
  pub contents : Contents y.0 y.1 fs p
  pub old_one : OldOne same y.0 n q y.1

module _ (m : Model) (sound : Sound m) (n : ℕ) (is_unique : unique (shape_at m n) ≡ true) where
  abbrev s : Shape
  s = shape_at m n

  abbrev es : List Entry
  es = entries m (shape_at m n)

  pub is_used_lem : Used m n
  is_used_lem = unique_used s is_unique

  -- All its table's entries are its own.
  pub whole : es ≡ table_of m s
  whole =
      let all = (sound.shapes n is_used_lem).unique_whole is_unique in
      take_all s.properties (table_of m s) (omega arith)

  count : s.properties ≡ length es
  count = (sound.shapes n is_used_lem).unique_whole is_unique ∙ ap length (sym whole)

  good : GoodTable m.K es
  good =
      let its = used_table (table_at m s.table) (sound.shapes n is_used_lem).table_used in
      rw whole (sound.tables s.table (table_of m s) its)

  -- The same shape with another property count.
  recounted : (c long : ℕ) → c ≡ long → FreshShape (with_properties s c) s.table long
  recounted c long q =
      let w = (sound.shapes n is_used_lem).words in
      let l = (sound.shapes n is_used_lem).limits in
      let z = w.unique is_unique in
      record {
        words = record {
          state = inr is_unique;
          step = w.step;
          transitions = w.transitions;
          root = λ r. not-both is_unique (shared-not-unique s (and_both (shared s) r).0);
          unique = λ r. record { previous = z.previous; step = z.step; transitions = z.transitions };
        };
        limits = record {
          unheld = l.unheld;
          holds = l.holds;
          property = l.property;
          prototype = l.prototype;
          unique = l.unique;
        };
        its_table = refl;
        whole = q;
        no_child = rw z.previous (and-false (shared s));
      }

  -- "Insert and equal-width change act on the same number."
  pub insert_unique_keeps : (k a : ℕ) → good_key k ≡ true → good_attributes a ≡ true → has k es ≡ false
      → (y : Placed) → insert_unique m n k a ≡ ok y → Acted m n (appended es k a) s.prototype true 0 y
  unfolding insert_unique
  insert_unique_keeps k a key low absent y e =
      let (few, given) = guard_passed KeysFull (eqb s.properties m.K) _ y e in
      let less = eqb-false s.properties m.K few in
      let long = count in
      let fit = good.room in
      let fs = appended es k a in
      let known : GoodTable m.K fs = record {
        good = good_appended es k a good.good key low absent;
        room = omega (arith, length-appended es k a);
      } in
      let fit = recounted (s.properties + 1) (length fs) (omega (arith, length-appended es k a)) in
      let next = with_properties s (s.properties + 1) in
      let r = both-put m sound n is_unique fs known next is_unique fit in
      let own : (put_shape (put_table m s.table (used fs)) n next, n) ≡ y = rw whole (same_given given) in
      rw (← own)
      record {
        keeps = retabled_keeps m _ sound n fs r;
        is_unique = r.is_unique;
        contents = record {
          its_entries = retabled_entries m _ sound n fs r;
          its_prototype = ap (λ (x : Shape). x.prototype) (both_stands m sound n is_unique fs known next);
        };
        old_one = refl;
      }

  same_shape : (fs : List Entry) → prototype_at (put_table m s.table (used fs)) n ≡ s.prototype
  unfolding shape_at put_table
  same_shape fs = refl

  change_same_keeps : (k a : ℕ) → good_attributes a ≡ true → same_width (attributes_in k es) a ≡ true
      → let fs = configured es k a in
      Acted m n fs s.prototype true 0 (put_table m s.table (used fs), n)
  change_same_keeps k a low wide =
      let fit = good.room in
      let long = count in
      let same = length-configured es k a in
      let known : GoodTable m.K (configured es k a) = record {
        good = good_configured es k a good.good low wide;
        room = omega arith;
      } in
      let r = table-put m sound n is_unique (configured es k a) known (omega arith) in
      record {
        keeps = retabled_keeps m _ sound n _ r;
        is_unique = r.is_unique;
        contents = record {
          its_entries = retabled_entries m _ sound n _ r;
          its_prototype = same_shape (configured es k a);
        };
        old_one = refl;
      }

  -- "the old one keeps its number with no keys"
  none : GoodTable m.K []
  none = record { good = refl; room = omega arith }

  retabled : (p : ℕ) → Retabled m (emptied m n p) n []
  unfolding emptied
  retabled p =
      let held = (sound.shapes n is_used_lem).limits.holds in
      let fit = fresh-unique s.holds 0 p s.table held in
      both-put m sound n is_unique [] none (unique_shape s.holds 0 p s.table) refl fit

  left : (p : ℕ) → Emptied (emptied m n p) n p
  unfolding emptied
  left p =
      let stands = both_stands m sound n is_unique [] none (unique_shape s.holds 0 p s.table) in
      record {
        is_used = unique_used (shape_at (emptied m n p) n) (retabled p).is_unique;
        is_unique = (retabled p).is_unique;
        contents = record {
          its_entries = retabled_entries m (emptied m n p) sound n [] (retabled p);
          its_prototype = ap (λ (x : Shape). x.prototype) stands;
        };
      }

  emptied_keeps : (p : ℕ) → Keeps m (emptied m n p) (Others m n)
  emptied_keeps p = retabled_keeps m (emptied m n p) sound n [] (retabled p)

  -- "Removal and width change give a new shape", and so does a change of prototype.
  replaced_keeps : (p q : ℕ) (fs : List Entry) → good_entries fs ≡ true → length fs ≤ length es
      → (y : Placed) → replaced (emptied m n p) q fs ≡ ok y → Acted m n fs q false p y
  replaced_keeps p q fs known few y e =
      let first = emptied_keeps p in
      let old = left p in
      let fit = good.room in
      let room = ap (λ (l : Limits). l.K) first.same_limits in
      let table : GoodTable m.K fs = record { good = known; room = omega arith } in
      let next = fresh_keeps (emptied m n p) first.is_sound (unique_shape 0 (length fs) q) fs
      (λ t. fresh-unique 0 (length fs) q t (omega arith)) (rw room table) y e in
      let kept = next.keeps.keeps n old.is_used in
      record {
        keeps = keeps_again first (λ k o kept. kept_used o.0 kept) next.keeps;
        is_unique = ap unique next.stands;
        contents = record {
          its_entries = next.its_entries;
          its_prototype = ap (λ (x : Shape). x.prototype) next.stands;
        };
        old_one = (
          λ same. not-both (rw same at next.was_free) old.is_used,
          record {
            is_used = kept_used old.is_used kept;
            is_unique = ap unique kept.same_core ∙ old.is_unique;
            contents = kept_contents kept old.contents;
          },
        );
      }

  pub remove_unique_keeps : (k : ℕ) (y : Placed) → remove_unique m n k ≡ ok y
      → Acted m n (laid 0 (without es k)) s.prototype (not (has k es)) 0 y
  unfolding remove_unique
  remove_unique_keeps k y e = go (either (has k es))
    where
      fs : List Entry
      fs = laid 0 (without es k)

      short : length fs ≤ length es
      short = omega (arith, length-laid 0 (without es k), length_without es k)

      go : Decided (has k es) → Acted m n fs s.prototype (not (has k es)) 0 y
      go (inl q) =
          let a = replaced_keeps 0 s.prototype fs (good_without es k good.good) short y (rw q at e) in
          rw q a
      go (inr q) =
          rw (← same_given (rw q at e), q)
          record {
            keeps = keeps_self sound;
            is_unique = is_unique;
            contents = record {
              its_entries = sym (laid_without_absent k es good.good q);
              its_prototype = refl;
            };
            old_one = refl;
          }

  pub change_unique_keeps : (k a : ℕ) → good_attributes a ≡ true
      → (y : Placed) → change_unique m n k a ≡ ok y → let same = same_width (attributes_in k es) a in
      Acted m n (if same then configured es k a else laid 0 (configured es k a)) s.prototype same 0 y
  unfolding change_unique
  change_unique_keeps k a low y e = go (either (same_width (attributes_in k es) a))
    where
      fs : List Entry
      fs = laid 0 (configured es k a)

      short : length fs ≤ length es
      short = omega (arith, length-laid 0 (configured es k a), length-configured es k a)

      go : let same = same_width (attributes_in k es) a in Decided same
          → Acted m n (if same then configured es k a else fs) s.prototype same 0 y
      go (inl q) = rw (← same_given (rw q at e), q) (change_same_keeps k a low q)
      go (inr q) =
          let known = good_changed es k a good.good low in
          let a = replaced_keeps 0 s.prototype fs known short y (rw q at e) in
          rw q a

  pub prototype_unique_keeps : (p : ℕ) (y : Placed) → prototype_unique m n p ≡ ok y
      → Acted m n es p false s.prototype y
  unfolding prototype_unique
  prototype_unique_keeps p y e = replaced_keeps s.prototype p es good.good (omega arith) y e
