-- Demand 3: shape numbers and trails, slot indexes, and what stays, in every image that calls lead to.
-- Assumes nothing.
use Rattle.std.specs.Prelude.{true, List, [], ◌∷◌, ◌↔◌, ◌≡◌, ℕ, ◌<◌, length, take, get_or}
use Rattle.std.proofs.Common.{ap}
use Rattle.store.specs.Model.{Model, no_entry, shape_at}
use Rattle.store.specs.Layout.{parse}
use Rattle.store.specs.declared.Limits.{Limits}
use Rattle.store.specs.declared.Shape.{Shape}
use Rattle.rules.specs.Shapes.{widths}
use Rattle.rules.specs.Sound.{sound}
use Rattle.rules.specs.Calls.{Call, sweep, Done, Yes, call_on, format}
use Rattle.rules.specs.Trails.{trail, root}
use Rattle.rules.proofs.Formatted.{format-sound}
use Rattle.theorems.specs.Entries.{slot_at}
use Rattle.theorems.specs.Frame.{Kept, kept-root}
use Rattle.theorems.specs.Made.{SharedAt, entries_at, prototype_at}
use Rattle.theorems.specs.Made.{own_good}
use Rattle.theorems.specs.SameTrail.{same_trail_lem}
use Rattle.theorems.specs.CallsKeep.{HeldAt, held_used, call_keeps_shared, sweep_keeps_held}
use Rattle.theorems.specs.WordsKeep.{sound-read, sound-call, call_on-sound}

-- ## The statement

-- The words after a list of calls, each made on what the one before it left, refused or not.
abbrev pub after_calls : List ℕ → List Call → List ℕ
after_calls ws [] = ws
after_calls ws (c ∷ cs) = after_calls (call_on ws c).0 cs

-- The shape at place n is the same shape in j as in m: shared or unique as it was, with the same keys,
-- attributes and slots, the same prototype, the same trail and the same root.
pub record Unchanged (m j : Model) (n : ℕ) : Type 0 where
  pub same_state : (shape_at j n).state ≡ (shape_at m n).state
  pub same_entries : entries_at j n ≡ entries_at m n
  pub same_prototype : prototype_at j n ≡ prototype_at m n
  pub same_trail : trail j n ≡ trail m n
  pub same_root : root j n ≡ root m n

-- What demand 3 says of the words ws. `HeldAt` says that a shape has holds, and `SharedAt` that it is shared.
--
-- Trails are those of document 01: "the list of steps from its root". A removal or a change of width is no
-- step of its own: it leads to the shape whose trail it ends with, which may have been there before.
pub record Demand3 (ws : List ℕ) : Type 0 where
  -- Two shared shapes that are held and have one root: the same number exactly when their trails are equal.
  pub numbers : (n k : ℕ) → let m = parse ws in
      HeldAt m n → SharedAt m n → HeldAt m k → SharedAt m k → root m n ≡ root m k
      → (n ≡ k) ↔ (trail m n ≡ trail m k)
  -- A shape that is held, shared or unique: the slot index of each key, by its position p, is the sum of the
  -- widths of the entries before it.
  pub slots : (n : ℕ) → let es = entries_at (parse ws) n in
      HeldAt (parse ws) n → (p : ℕ) → p < length es → (get_or es p no_entry).slot.0 ≡ widths (take p es)
  -- A shared shape that is held: the next call, whichever it is and whether or not it is refused, leaves it.
  pub call_leaves : (n : ℕ) → HeldAt (parse ws) n → SharedAt (parse ws) n
      → (c : Call) → Unchanged (parse ws) (parse (call_on ws c).0) n
  -- Any shape that is held, and so a unique: a sweep leaves it.
  pub sweep_leaves : (n : ℕ) → HeldAt (parse ws) n → Unchanged (parse ws) (parse (call_on ws sweep).0) n

-- ## Of every sound image

kept-unchanged : {m j : Model} {n : ℕ} → Kept m j n → Unchanged m j n
kept-unchanged k =
    record {
      same_state = ap (λ (s : Shape). s.state) k.same_core;
      same_entries = k.same_entries;
      same_prototype = ap (λ (s : Shape). s.prototype) k.same_core;
      same_trail = k.same_trail;
      same_root = kept-root k;
    }

sound_demand3 : (ws : List ℕ) → sound ws ≡ true → Demand3 ws
sound_demand3 ws e =
    let m = parse ws in
    let is_sound = (sound-read ws e).is_sound in
    record {
      numbers = λ n k held_n n_shared held_k k_shared roots. same_trail_lem m is_sound n k n_shared k_shared roots;
      slots = λ n is_held p inside.
          slot_at (entries_at m n) (own_good m is_sound n (held_used m is_sound n is_held)).good p inside;
      call_leaves = λ n is_held is_shared c.
          rw (sound-call ws c e).model (kept-unchanged (call_keeps_shared m is_sound n is_held is_shared c));
      sweep_leaves = λ n is_held.
          rw (sound-call ws sweep e).model (kept-unchanged (sweep_keeps_held m is_sound n is_held));
    }

-- ## Of every image that calls lead to

pub after-sound : (ws : List ℕ) (cs : List Call) → sound ws ≡ true → sound (after_calls ws cs) ≡ true
after-sound ws [] e = e
after-sound ws (c ∷ cs) e = after-sound (call_on ws c).0 cs (call_on-sound ws c e)

-- Demand 3 holds after every list of calls on a formatted image, refused ones and sweeps among them.
pub demand3 : (l : Limits) (ws : List ℕ) → (format l ws).1 ≡ Yes Done
    → (cs : List Call) → Demand3 (after_calls (format l ws).0 cs)
demand3 l ws e cs =
    let image = (format l ws).0 in
    sound_demand3 (after_calls image cs) (after-sound image cs (format-sound l ws e))
