-- The walks from the held shapes along their previous links: what they have marked so far, and in the end.
-- Assumes nothing.
use Rattle.std.specs.Prelude.{Bool, false, ◌||◌, List, ◌⊎◌, ◌≢◌, ◌≡◌, eqb, length, set}
use Rattle.std.proofs.Math.Bool.{true, or-true}
use Rattle.std.proofs.Common.{inl, inr, sym, ◌∙◌, ap, arith, eqb-true, eq-eqb, ne_eqb, length-set}
use Rattle.std.proofs.Math.Path.{refl}
use Prim.Native.Nat.{ℕ, zero, suc, ◌+◌, ◌≤◌, ◌<◌}
use Rattle.store.specs.Lists.{any}
use Rattle.store.specs.Model.{Model, shape_at}
use Rattle.store.specs.PlaceLaws.{same?}
use Rattle.store.specs.ListLaws.{Decided, either, both-and, or_then, not-both}
use Rattle.rules.specs.Shapes.{shared, unique}
use Rattle.rules.specs.Sweep.{held, reached}
use Rattle.theorems.specs.Facts.{Used, Sound, used_place, used_place_inside}
use Rattle.theorems.specs.HeldChains.{OnHeldChain, behind, behind-none, chain_closed, held_on_its_chain}
use Rattle.theorems.specs.HeldChains.{reached_on_chain}
use Rattle.sweep.specs.Marks.{marked, mark_says}

-- ## One walk

module _ (m : Model) where
  -- Marked, or where the walk stands, or none.
  abbrev pub Settled : List ℕ → (standing place : ℕ) → Type 0
  Settled marks p n = (marked marks n ≡ true) ⊎ ((n ≡ p) ⊎ (n ≡ 0))

  -- Only shapes on the chains of held ones are marked; with a shape its previous, or a walk stands there.
  pub record Marking (marks : List ℕ) (standing : ℕ) : Type 0 where
    pub room : length m.shapes < length marks
    pub only : (n : ℕ) → marked marks n ≡ true → OnHeldChain m n
    pub closed : (n : ℕ) → marked marks n ≡ true → Settled marks standing (shape_at m n).previous

  -- A walk that began at a place, with the marks `before`. It has ended where it stands at 0.
  pub record Walk (before marks : List ℕ) (from standing : ℕ) : Type 0 where
    pub marking : Marking marks standing
    pub long : length marks ≡ length before
    pub grows : (n : ℕ) → marked before n ≡ true → marked marks n ≡ true
    pub start : Settled marks standing from
    pub stands : (standing ≡ 0) ⊎ OnHeldChain m standing

  pub walk_start : {marks : List ℕ} {from : ℕ} → Marking marks 0 → OnHeldChain m from
      → Walk marks marks from from
  walk_start {marks} {from} k c =
      record {
        marking = record { room = k.room; only = k.only; closed = λ n h. wider (k.closed n h) };
        long = refl;
        grows = λ n h. h;
        start = inr (inl refl);
        stands = inr c;
      }
    where
      wider : {n : ℕ} → Settled marks 0 n → Settled marks from n
      wider (inl h) = inl h
      wider (inr (inl e)) = inr (inr e)
      wider (inr (inr e)) = inr (inr e)

  module _ {before marks : List ℕ} {from p : ℕ} (w : Walk before marks from p) where
    pub standing_on_chain : p ≢ 0 → OnHeldChain m p
    standing_on_chain some = go w.stands
      where
        go : (p ≡ 0) ⊎ OnHeldChain m p → OnHeldChain m p
        go (inl e) = absurd (some e)
        go (inr c) = c

    pub standing-inside : p ≢ 0 → p < length marks
    standing-inside some =
        let high = (used_place_inside m p (standing_on_chain some).is_used).high in
        let room = w.marking.room in
        omega arith

    -- It ends at a marked shape, or past a root.
    pub walk_end : Settled marks 0 p → Walk before marks from 0
    walk_end s =
        record {
          marking = record {
            room = w.marking.room;
            only = w.marking.only;
            closed = λ n h. at_end (w.marking.closed n h);
          };
          long = w.long;
          grows = w.grows;
          start = at_end w.start;
          stands = inl refl;
        }
      where
        at_end : {n : ℕ} → Settled marks p n → Settled marks 0 n
        at_end (inl h) = inl h
        at_end (inr (inl e)) = rw e s
        at_end (inr (inr e)) = inr (inr e)

    -- It marks where it stands and goes on to the previous.
    module _ (sound : Sound m) (some : p ≢ 0) where
      abbrev more : List ℕ
      more = set marks p 1

      says : (n : ℕ) → marked more n ≡ (marked marks n || eqb p n)
      says n = mark_says marks p n (λ e. rw e at (standing-inside some))

      still : (n : ℕ) → marked marks n ≡ true → marked more n ≡ true
      still n h = says n ∙ rw h

      here : marked more p ≡ true
      here = says p ∙ rw (eq-eqb p p refl) (or-true (marked marks p))

      was : (n : ℕ) → marked more n ≡ true → (marked marks n ≡ true) ⊎ (p ≡ n)
      was n h = go (either (marked marks n))
        where
          go : Decided (marked marks n) → (marked marks n ≡ true) ⊎ (p ≡ n)
          go (inl e) = inl e
          go (inr f) = inr (eqb-true p n (or_then (marked marks n) (sym (says n) ∙ h) f))

      settled : {n q : ℕ} → Settled marks p n → Settled more q n
      settled {n} (inl h) = inl (still n h)
      settled (inr (inl e)) = inl (rw e here)
      settled (inr (inr e)) = inr (inr e)

      previous_on_chain : ((shape_at m p).previous ≡ 0) ⊎ OnHeldChain m (shape_at m p).previous
      previous_on_chain = go (sound.shapes p c.is_used).words.state (same? (shape_at m p).previous 0)
        where
          c : OnHeldChain m p
          c = standing_on_chain some

          go : (shared (shape_at m p) ≡ true) ⊎ (unique (shape_at m p) ≡ true)
              → ((shape_at m p).previous ≡ 0) ⊎ ((shape_at m p).previous ≢ 0)
              → ((shape_at m p).previous ≡ 0) ⊎ OnHeldChain m (shape_at m p).previous
          go r (inl z) = inl z
          go (inr r) (inr one) = inl ((sound.shapes p c.is_used).words.unique r).previous
          go (inl r) (inr one) =
              inr ((chain_closed m sound).previous p c
              (both-and r (rw (ne_eqb (shape_at m p).previous 0 one))))

      pub walk_on : Walk before more from (shape_at m p).previous
      walk_on =
          record {
            marking = record {
              room = rw length-set w.marking.room;
              only = λ n h. chain n (was n h);
              closed = λ n h. closed n (was n h);
            };
            long = length-set marks p 1 ∙ w.long;
            grows = λ n h. still n (w.grows n h);
            start = settled w.start;
            stands = previous_on_chain;
          }
        where
          chain : (n : ℕ) → (marked marks n ≡ true) ⊎ (p ≡ n) → OnHeldChain m n
          chain n (inl h) = w.marking.only n h
          chain n (inr e) = rw (← e) (standing_on_chain some)

          closed : (n : ℕ) → (marked marks n ≡ true) ⊎ (p ≡ n)
              → Settled more (shape_at m p).previous (shape_at m n).previous
          closed n (inl h) = settled (w.marking.closed n h)
          closed n (inr e) = inr (inl (ap (λ (k : ℕ). (shape_at m k).previous) (sym e)))

-- ## All walks

same_tests : (a b : Bool) → (a ≡ true → b ≡ true) → (b ≡ true → a ≡ true) → a ≡ b
same_tests true b f g = sym (f refl)
same_tests false true f g = g refl
same_tests false false f g = refl

module _ (m : Model) where
  -- A shape that is held is marked, with what leads back from it.
  pub record Grown (before marks : List ℕ) (n : ℕ) : Type 0 where
    pub marking : Marking m marks 0
    pub long : length marks ≡ length before
    pub grows : (k : ℕ) → marked before k ≡ true → marked marks k ≡ true
    pub is_marked : held (shape_at m n) ≡ true → marked marks n ≡ true

  pub grown-none : {marks : List ℕ} {n : ℕ} → Marking m marks 0 → held (shape_at m n) ≡ false
      → Grown marks marks n
  grown-none k f = record { marking = k; long = refl; grows = λ n h. h; is_marked = λ h. not-both h f }

  pub grown-walk : {before marks : List ℕ} {n : ℕ} → Used m n → Walk m before marks n 0 → Grown before marks n
  grown-walk {before} {marks} {n} u w =
      record { marking = w.marking; long = w.long; grows = w.grows; is_marked = λ h. go w.start }
    where
      go : Settled m marks 0 n → marked marks n ≡ true
      go (inl h) = h
      go (inr (inl z)) = absurd (used_place m n u z)
      go (inr (inr z)) = absurd (used_place m n u z)

  -- The walks from so many places are done.
  pub record Walks (before marks : List ℕ) (done : ℕ) : Type 0 where
    pub marking : Marking m marks 0
    pub long : length marks ≡ length before
    pub held_marked : (n : ℕ) → n ≤ done → held (shape_at m n) ≡ true → marked marks n ≡ true

  pub walks-none : {marks : List ℕ} → length m.shapes < length marks → ((n : ℕ) → marked marks n ≡ false)
      → Walks marks marks 0
  unfolding shape_at
  walks-none {marks} room clear =
      record {
        marking = record {
          room = room;
          only = λ n h. not-both h (clear n);
          closed = λ n h. not-both h (clear n);
        };
        long = refl;
        held_marked = none;
      }
    where
      none : (n : ℕ) → n ≤ 0 → held (shape_at m n) ≡ true → marked marks n ≡ true
      none zero l h = not-both h refl
      none (suc n) l h = absurd (omega arith)

  pub walks_next : {before marks next : List ℕ} {done : ℕ} → Walks before marks done
      → Grown marks next (done + 1) → Walks before next (done + 1)
  walks_next {before} {marks} {next} {done} w g =
      record {
        marking = g.marking;
        long = g.long ∙ w.long;
        held_marked = λ n l h. go n l h (same? n (done + 1));
      }
    where
      go : (n : ℕ) → n ≤ done + 1 → held (shape_at m n) ≡ true → (n ≡ done + 1) ⊎ (n ≢ done + 1)
          → marked next n ≡ true
      go n l h (inl e) = rw e (g.is_marked (rw e at h))
      go n l h (inr other) = g.grows n (w.held_marked n (omega arith) h)

  module _ (sound : Sound m) {before marks : List ℕ} {done : ℕ} (w : Walks before marks done)
      (all : length m.shapes ≤ done)
    where
      behind-marked : (links h : ℕ) → marked marks h ≡ true → behind m links h ≢ 0
          → marked marks (behind m links h) ≡ true
      behind-marked zero h e some = e
      behind-marked (suc links) h e some =
          go (w.marking.closed h e) (λ f. behind-marked links (shape_at m h).previous f some)
        where
          none : (shape_at m h).previous ≡ 0 → marked marks (behind m links (shape_at m h).previous) ≡ true
          none z = absurd (some (ap (behind m links) z ∙ behind-none m links))

          go : Settled m marks 0 (shape_at m h).previous
              → (marked marks (shape_at m h).previous ≡ true
              → marked marks (behind m links (shape_at m h).previous) ≡ true)
              → marked marks (behind m links (shape_at m h).previous) ≡ true
          go (inl f) later = later f
          go (inr (inl z)) later = none z
          go (inr (inr z)) later = none z

      chain-marked : (n : ℕ) → OnHeldChain m n → marked marks n ≡ true
      chain-marked n c =
          let h = c.holder in
          let high = (used_place_inside m h (held_on_its_chain m sound h c.is_held).is_used).high in
          let first = w.held_marked h (omega arith) c.is_held in
          let some : behind m c.links h ≢ 0 = λ z. used_place m n c.is_used (sym c.lead_here ∙ z) in
          rw (← c.lead_here) (behind-marked c.links h first some)

      -- The marks say exactly which shapes a sweep keeps.
      pub walks-all : (n : ℕ) → marked marks n ≡ any (eqb n) (reached m)
      walks-all n =
          let is = reached_on_chain m sound n in
          same_tests (marked marks n) (any (eqb n) (reached m))
          (λ h. is.1 (w.marking.only n h)) (λ h. chain-marked n (is.0 h))
