-- Document 01, "Holds, sweeps, questions": "Holds of a place equal grants less releases since it was made."
-- Assumes nothing.
use Rattle.std.specs.Prelude.{true, List, [], ◌∷◌, ◌≢◌, ◌≡◌, refl, ℕ, ◌+◌}
use Rattle.std.proofs.Common.{arith}
use Rattle.store.specs.Model.{free_shape, shape_at}
use Rattle.store.specs.declared.Limits.{Limits}
use Rattle.store.specs.Layout.{parse}
use Rattle.rules.specs.Sound.{sound}
use Rattle.rules.specs.Calls.{Call, Done, Yes, call_on, format}
use Rattle.rules.proofs.Formatted.{format-sound}
use Rattle.theorems.specs.Quiet.{holds_at, raw_holds}
use Rattle.theorems.specs.CallsKeep.{granted, released, called}
use Rattle.theorems.specs.WordsKeep.{sound-read, sound-call}
use Rattle.theorems.specs.Demand3.{after_calls, after-sound}

-- ## Statement

-- What the replies to a list of calls on the words ws grant to the place n, and what they release.
abbrev pub grants : (n : ℕ) → List ℕ → List Call → ℕ
grants n ws [] = 0
grants n ws (c ∷ cs) = granted n (call_on ws c).1 + grants n (call_on ws c).0 cs

abbrev pub releases : (n : ℕ) → List ℕ → List Call → ℕ
releases n ws [] = 0
releases n ws (c ∷ cs) = released n c (call_on ws c).1 + releases n (call_on ws c).0 cs

-- ## Over any calls

-- The holds after calls and what they release are the holds before and what they grant.
holds-follow : (n : ℕ) → n ≢ 0 → (ws : List ℕ) (cs : List Call) → sound ws ≡ true
    → holds_at (parse (after_calls ws cs)) n + releases n ws cs ≡ holds_at (parse ws) n + grants n ws cs
holds-follow n place ws [] e = refl
holds-follow n place ws (c ∷ cs) e =
    let k = sound-call ws c e in
    let its = (called (parse ws) (sound-read ws e).is_sound c).holds n place in
    let first = rw (← k.model, ← k.reply) at its in
    let rest = holds-follow n place (call_on ws c).0 cs k.is_sound in
    omega arith

-- ## Since a place was free

-- From a moment at which the place n was free, since no shape had been made there or a sweep had freed it:
-- its holds with the releases since then are the grants since then.
pub holds_are_grants : (l : Limits) (ws : List ℕ) → (format l ws).1 ≡ Yes Done
    → (before since : List Call) (n : ℕ) → n ≢ 0
    → let image = after_calls (format l ws).0 before in
    free_shape (shape_at (parse image) n) ≡ true
    → (shape_at (parse (after_calls image since)) n).holds + releases n image since ≡ grants n image since
holds_are_grants l ws e before since n place was_free =
    let image = after_calls (format l ws).0 before in
    let sound₀ = after-sound (format l ws).0 before (format-sound l ws e) in
    let sound₁ = after-sound image since sound₀ in
    let none : holds_at (parse image) n ≡ 0 = rw was_free in
    let follow = holds-follow n place image since sound₀ in
    omega (arith, raw_holds (parse (after_calls image since)) (sound-read _ sound₁).is_sound n)
