-- What each pass of a sweep makes of a record.
-- Assumes nothing.
use Rattle.std.specs.Prelude.{Bool, true, false, List, map, ◌≡◌, refl, ℕ, suc, ◌+◌, length, get_or}
use Rattle.std.proofs.Common.{◌∙◌, add-one}
use Rattle.std.proofs.lemmas.List.{length-map}
use Rattle.std.specs.Prelude.{if◌then◌else◌}
use Rattle.store.specs.Lists.{numbered}
use Rattle.store.specs.Model.{no_edge}
use Rattle.store.specs.PlaceLaws.{at_map, at-map-numbered, length-numbered}
use Rattle.store.specs.declared.Edge.{Edge}
use Rattle.rules.specs.Sweep.{sweep_edge, deadened}

if_same : {A : Type 0} (b : Bool) (x : A) → (if b then x else x) ≡ x
if_same true x = refl
if_same false x = refl

-- Shapes and tables stay as they are, or are freed.
module _ {A : Type 0} (stay : ℕ → Bool) (d : A) (xs : List A) where
  abbrev pub kept : List A
  kept = map (λ p. if stay p.0 then p.1 else d) (numbered 1 xs)

  pub kept_long : length kept ≡ length xs
  kept_long = length-map (numbered 1 xs) _ ∙ length-numbered 1 xs

  pub kept_at : (i : ℕ) → get_or kept i d ≡ (if stay (i + 1) then get_or xs i d else d)
  kept_at i = rw add-one (at-map-numbered _ d d (λ n. if_same (stay n) d) xs (suc i))

module _ (stay : ℕ → Bool) (xs : List Edge) where
  pub edges_long : length (map (sweep_edge stay) xs) ≡ length xs
  edges_long = length-map xs (sweep_edge stay)

  pub edge-at : (i : ℕ) → get_or (map (sweep_edge stay) xs) i no_edge ≡ sweep_edge stay (get_or xs i no_edge)
  edge-at i = at_map (sweep_edge stay) xs (suc i) no_edge (go (stay 0))
    where
      go : (b : Bool) → (if b then (if b then no_edge else deadened no_edge) else no_edge) ≡ no_edge
      go true = refl
      go false = refl
