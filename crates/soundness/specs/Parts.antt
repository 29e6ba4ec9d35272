-- The sentences of Sound in the order in which code tests them: those that others need to be read come first.
-- Assumes nothing.
use Rattle.std.specs.Prelude.{◌≡◌, ℕ, Bool, true, false, ◌&&◌, not, List, [], ◌∷◌}
use Rattle.std.proofs.Math.Path.{refl, sym, ap}
use Rattle.std.proofs.Common.{◌∙◌, true≢false}
use Rattle.std.proofs.Math.Bool.{and_assoc, and_comm, and-true}
use Rattle.store.specs.Lists.{all}
use Rattle.store.specs.Model.{Model}
use Rattle.store.specs.Layout.{parse, limits_in, good_limits, good_header, tidy_tables}
use Rattle.store.specs.ListLaws.{◌and◌, and_both, both-and, all-passed, passed-all}
use Rattle.rules.specs.Sound.{in_range, table_in_use, free_zero, tables_good, tables_used, counts_fit, roots_zero}
use Rattle.rules.specs.Sound.{children_linked, children_stepped, edges_differ, edges_good, transitions_limited}
use Rattle.rules.specs.Sound.{holds_limited, uniques_zero, model_sentences, sound_model, sound_words}
use Rattle.rules.specs.Sound.{sound}
use Rattle.sound_shapes.specs.Tests.{TablesKnown}

-- A shape's own fields.
abbrev pub own_sentences : Model → List Bool
own_sentences m =
    table_in_use m
    ∷ counts_fit m
    ∷ roots_zero m
    ∷ transitions_limited m
    ∷ holds_limited m
    ∷ uniques_zero m
    ∷ []

-- What must hold before the links can be read.
abbrev pub field_sentences : Model → List Bool
field_sentences m = in_range m ∷ all (own_sentences m) ∷ tables_good m ∷ free_zero m ∷ tables_used m ∷ []

unfoldable pub fields_sound : Model → Bool
fields_sound m = all (field_sentences m)

-- What shapes and edges say of each other.
abbrev pub link_sentences : Model → List Bool
link_sentences m = children_linked m ∷ children_stepped m ∷ edges_differ m ∷ edges_good m ∷ []

unfoldable pub links_sound : Model → Bool
links_sound m = all (link_sentences m)

-- Tests that pass together say the same.
same_tests : (a b : Bool) → (a ≡ true → b ≡ true) → (b ≡ true → a ≡ true) → a ≡ b
same_tests true b f g = sym (f refl)
same_tests false true f g = g refl
same_tests false false f g = refl

pub sound-parts : (m : Model) → sound_model m ≡ (fields_sound m && links_sound m)
unfolding sound_model fields_sound links_sound
sound-parts m = same_tests (sound_model m) (fields_sound m && links_sound m) there back
  where
    there : sound_model m ≡ true → (fields_sound m && links_sound m) ≡ true
    there e =
        let (ranges, (in_use, (zero, (good, (used, (fit, (roots, rest))))))) = all-passed (model_sentences m) e in
        let (linked, (stepped, (differ, (edges, (few, (holds, (uniques, _))))))) = rest in
        let own = passed-all (own_sentences m) (in_use and fit and roots and few and holds and uniques and tt) in
        both-and
        (passed-all (field_sentences m) (ranges and own and good and zero and used and tt))
        (passed-all (link_sentences m) (linked and stepped and differ and edges and tt))

    back : (fields_sound m && links_sound m) ≡ true → sound_model m ≡ true
    back e =
        let (fields, links) = and_both (fields_sound m) e in
        let (ranges, (own, (good, (zero, (used, _))))) = all-passed (field_sentences m) fields in
        let (in_use, (fit, (roots, (few, (holds, (uniques, _)))))) = all-passed (own_sentences m) own in
        let (linked, (stepped, (differ, (edges, _)))) = all-passed (link_sentences m) links in
        let last = linked and stepped and differ and edges and few and holds and uniques and tt in
        passed-all (model_sentences m)
        (ranges and in_use and zero and good and used and fit and roots and last)

-- Those of the children, then those of the edges.
pub link_parts : (m : Model)
    → links_sound m ≡ ((children_linked m && children_stepped m) && (edges_good m && edges_differ m))
unfolding links_sound
link_parts m = rw (and_comm (edges_good m) (edges_differ m)) (simp (and_assoc, and-true))

-- What the links are read with.
pub tables_known : (m : Model) → fields_sound m ≡ true → TablesKnown m
unfolding fields_sound
tables_known m e =
    let (ranges, (own, (good, _))) = all-passed (field_sentences m) e in
    let (in_use, (fit, _)) = all-passed (own_sentences m) own in
    record { ranges = ranges; in_use = in_use; good = good; counts = fit }

pub free_known : (m : Model) → fields_sound m ≡ true → free_zero m ≡ true
unfolding fields_sound
free_known m e = let (_, (_, (_, (zero, _)))) = all-passed (field_sentences m) e in zero

-- Three tests that are all made.
pub all_three : {a b c x y z : Bool} → a ≡ x → b ≡ y → c ≡ z → (a && b && c) ≡ all (x ∷ y ∷ z ∷ [])
all_three {x = x} {y = y} {z = z} e f g = rw (e, f, g) (same x y z)
  where
    same : (x y z : Bool) → (x && y && z) ≡ all (x ∷ y ∷ z ∷ [])
    same false y z = refl
    same true false z = refl
    same true true false = refl
    same true true true = refl

-- What `if !test(..)` tells of the test, where it is taken and where it is passed.
pub test_failed : (r : Bool) {test : Bool} → r ≡ test → not r ≡ true → test ≡ false
test_failed true e f = absurd (true≢false (sym f))
test_failed false e f = sym e

pub test_passed : (r : Bool) {test : Bool} → r ≡ test → not r ≡ false → test ≡ true
test_passed true e f = sym e
test_passed false e f = absurd (true≢false f)

-- ## Words and model

module _ (ws : List ℕ) where
  sound-words : sound ws ≡ (good_limits (limits_in ws) && good_header ws && tidy_tables ws && sound_model (parse ws))
  unfolding sound sound_words
  sound-words =
      ap (λ (b : Bool). b && sound_model (parse ws))
      (go (good_limits (limits_in ws)) (good_header ws) (tidy_tables ws))
    where
      go : (x y z : Bool) → all (x ∷ y ∷ z ∷ []) ≡ (x && y && z)
      go x y z = sym (all_three {a = x} {b = y} {c = z} refl refl refl)

  after-header : {b : Bool} → (good_limits (limits_in ws) && good_header ws) ≡ b
      → sound ws ≡ (b && tidy_tables ws && sound_model (parse ws))
  after-header e = sound-words ∙ ap (λ (b : Bool). b && tidy_tables ws && sound_model (parse ws)) e

  pub header_fails : (good_limits (limits_in ws) && good_header ws) ≡ false → false ≡ sound ws
  header_fails e = sym (after-header e)

  pub tables_fail : (good_limits (limits_in ws) && good_header ws) ≡ true → tidy_tables ws ≡ false → false ≡ sound ws
  tables_fail e t = sym (after-header e ∙ rw t)

  pub model_decides : (good_limits (limits_in ws) && good_header ws) ≡ true → tidy_tables ws ≡ true
      → sound_model (parse ws) ≡ sound ws
  model_decides e t = sym (after-header e ∙ rw t)
