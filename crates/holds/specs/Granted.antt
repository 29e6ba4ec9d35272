-- A hold for what a rule has placed, and the laws of each way out.
-- Assumes nothing.
use Rattle.std.specs.Prelude.{if◌then◌else◌}
use Rattle.std.specs.Prelude.{Bool, false, not, List, ◌≡◌, refl, ℕ, ◌≤◌, ◌<◌, leb, length, Err, Ok, Result}
use Rattle.std.proofs.Common.{inl, inr, sym, ◌∙◌, ap, arith}
use borrow.Author.Tests.{leb-true, ne_eqb, not-true, not-false}
use Rattle.store.specs.Model.{Model, shape_at, free_shape}
use Rattle.store.specs.Layout.{words, parse}
use Rattle.store.specs.Image.{Formed, Place, and_then}
use Rattle.store.specs.ListLaws.{Decided, either, or-none}
use Rattle.store.specs.declared.Shape.{Shape}
use Rattle.rules.specs.declared.ChangeTransitionAction.{ChangeTransitionAction}
use Rattle.rules.specs.declared.Refusal.{Refusal}
use Rattle.rules.specs.declared.Refusal.TheVariants.{NoShape}
use Rattle.rules.specs.Refusals.{Got, ok, refused, ◌>>=◌}
use Rattle.rules.specs.Calls.{Answer, Reply, grant, unheld}
use Rattle.rules.specs.Steps.{Placed}
use Rattle.rules.specs.Placing.{Places}
use Rattle.rules.specs.Replies.{Answers}
use Rattle.theorems.specs.Facts.{Used, Sound, used_place_inside}
use Rattle.theorems.specs.Changes.{may_act}
use Rattle.theorems.specs.CallsKeep.{previous_gives}

-- The place of a result.
abbrev pub InPlace : Model → Result ℕ Refusal → Type 0
InPlace m (Ok n) = Place (length m.shapes) n
InPlace m (Err r) = Unit {0}

-- A hold for it, or its refusal.
abbrev pub grant_placed : ChangeTransitionAction → Model → Result ℕ Refusal → Got (Model × Answer)
grant_placed action m (Ok n) = grant action (m, n)
grant_placed action m (Err r) = refused r

-- ## Which shapes a call may name

module _ (m : Model) (n : ℕ) where
  abbrev its : Shape
  its = shape_at m n

  -- NoShape: "place 0, above S, free"
  pub no_place : n ≡ 0 → false ≡ not (unheld m n)
  unfolding shape_at
  no_place e = rw e

  pub past_the_end : length m.shapes < n → false ≡ not (unheld m n)
  past_the_end h = go (either (free_shape its))
    where
      go : Decided (free_shape its) → false ≡ not (unheld m n)
      go (inl f) = rw f
      go (inr u) = absurd (omega (arith, (used_place_inside m n u).high))

  -- What the test says.
  pub may_name : {r : Bool} → r ≡ not (unheld m n) → not r ≡ false → unheld m n ≡ false
  may_name {r} test e = not-true (unheld m n) (sym test ∙ not-false r e)

  module _ (may : unheld m n ≡ false) where
    pub held_place : Place (length m.shapes) n
    held_place = used_place_inside m n (or-none (free_shape its) may).0

-- ## The shape that a call names

-- NoShape: "place 0, above S, free, or without holds".
abbrev pub held : Model → ℕ → Result Shape Refusal
held m n = if unheld m n then Err NoShape else Ok (shape_at m n)

pub record Named (m : Model) (n : ℕ) (s : Shape) : Type 0 where
  pub may : unheld m n ≡ false
  pub read : s ≡ shape_at m n
  pub place : Place (length m.shapes) n

abbrev Says : Model → ℕ → Result Shape Refusal → Type 0
Says m n (Ok s) = Named m n s
Says m n (Err x) = Unit {0}

held_says : (m : Model) (n : ℕ) → Says m n (held m n)
held_says m n = go (either (unheld m n))
  where
    go : Decided (unheld m n) → Says m n (held m n)
    go (inl none) = rw none tt
    go (inr may) = rw may record { may = may; read = refl; place = held_place m n may }

-- What the answer says.
pub named : {m : Model} {n : ℕ} {r : Result Shape Refusal} {s : Shape} → r ≡ held m n → r ≡ Ok s → Named m n s
named {m} {n} answer told = let told-by : held m n ≡ Ok _ = sym answer ∙ told in rw told-by at (held_says m n)

-- The shape before a held one stands at a place.
pub previous_place : {m : Model} {n : ℕ} {s : Shape} → Sound m → Named m n s → (s.previous ≡ 0 → ⊥)
    → Place (length m.shapes) s.previous
previous_place {m} {n} {s} sound its other =
    let acts = may_act m sound n its.may in
    let there = (previous_gives m sound n acts.is_used (rw (← its.read) (ne_eqb s.previous 0 other))).is_used in
    rw its.read (used_place_inside m (shape_at m n).previous there)

-- ## A rule, and then a hold for its result

module _ (before between : List ℕ) (formed : Formed before) (rule : Got Placed) (p : Result ℕ Refusal)
    (did : Places before between rule p) where
  -- The result stands at a place, and the words are still laid out.
  pub result_place : ((y : Placed) → rule ≡ ok y → Used y.0 y.1)
      → Formed between × InPlace (parse between) p
  result_place in_use = go rule p did in_use
    where
      go : (g : Got Placed) (p : Result ℕ Refusal) → Places before between g p
          → ((y : Placed) → g ≡ ok y → Used y.0 y.1) → Formed between × InPlace (parse between) p
      go (ok (m, n)) p (became, at) in_use =
          rw (at, became.parsed) (rw (← became.parsed) became.formed, used_place_inside m n (in_use (m, n) refl))
      go (refused r) p (same, denied) in_use = rw (same, denied) (formed, tt)

  -- A result that has all its holds was there before, and nothing has been written.
  pub rule-granted : (action : ChangeTransitionAction) (after : List ℕ) (reply : Reply)
      → ((y : Placed) → rule ≡ ok y → 65535 ≤ (shape_at y.0 y.1).holds → y.0 ≡ parse before)
      → Answers between after (grant_placed action (parse between) p) reply
      → Answers before after (rule >>= grant action) reply
  rule-granted action after reply there granted = go rule p did there granted
    where
      go : (g : Got Placed) (p : Result ℕ Refusal) → Places before between g p
          → ((y : Placed) → g ≡ ok y → 65535 ≤ (shape_at y.0 y.1).holds → y.0 ≡ parse before)
          → Answers between after (grant_placed action (parse between) p) reply
          → Answers before after (g >>= grant action) reply
      go (refused r) p (same, denied) there granted = rw (denied, same) at granted
      go (ok (m, n)) p (became, at) there granted =
          full (either (leb 65535 s.holds)) (rw (at, became.parsed) at granted)
        where
          s : Shape
          s = shape_at m n

          full : Decided (leb 65535 s.holds) → Answers between after (grant action (m, n)) reply
              → Answers before after (grant action (m, n)) reply
          full (inl most) granted =
              let same = there (m, n) refl (leb-true 65535 s.holds most) in
              let back : between ≡ before = became.laid ∙ ap words same ∙ sym formed.laid in
              rw (most, ← back) (rw most at granted)
          full (inr few) granted =
              let (became', given) = rw few at granted in
              rw few (and_then became became', given)
