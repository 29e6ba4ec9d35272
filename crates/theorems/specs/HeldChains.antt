-- Document 01, "Holds, sweeps, questions": which shapes a sweep keeps, and what it frees and answers.
-- Assumes nothing.
use Rattle.std.specs.Prelude.{Bool, true, false, ◌↔◌, ◌⊎◌, ◌≢◌, ◌≡◌, refl, ℕ, zero, suc, eqb}
use Rattle.std.proofs.Math.Bool.{or-true}
use Rattle.std.proofs.lemmas.Bool.{false≢true}
use mathlib.Core.List.{List, [], map}
use Rattle.std.proofs.Common.{inl, inr, sym, ◌∙◌, arith, eqb-true, eq-eqb, ne_eqb}
use Rattle.std.proofs.Math.Path.{ap}
use Rattle.std.specs.Prelude.{if◌then◌else◌}
use Rattle.store.specs.Lists.{at, any, numbered}
use Rattle.store.specs.Model.{Model, free, no_shape, free_shape, free_table, shape_at, table_at, edge_at}
use Rattle.store.specs.PlaceLaws.{same?, at-map-numbered}
use Rattle.store.specs.ListLaws.{Decided, both-and, either, or_then, not-both, any_place, place-any, any-flat}
use Rattle.store.specs.declared.Shape.{Shape}
use Rattle.rules.specs.Refusals.{ok}
use Rattle.rules.specs.Shapes.{shared, unique}
use Rattle.rules.specs.Steps.{backward, chain}
use Rattle.rules.specs.Sweep.{held, reached, swept}
use Rattle.rules.specs.Calls.{sweep, Freed, perform}
use Rattle.theorems.specs.Facts.{Used, User, Sound, used_place, transitions_child}
use Rattle.theorems.specs.Frame.{Keeps, previous_used}
use Rattle.theorems.specs.SweepLaws.{AfterSweep, EdgeAfterSweep, left, gone, Swept, swept-to}
use Rattle.theorems.specs.SweepLaws.{freed_between, freed-answer}
use Rattle.theorems.specs.Sweeps.{Closed, sweep_keeps}

-- ## The previous chain of a held shape

-- The place that a number of previous links lead to.
abbrev pub behind : Model → (links place : ℕ) → ℕ
behind m zero n = n
behind m (suc k) n = behind m k (shape_at m n).previous

-- A shape in use that previous links lead to from a held one; 0 links lead to the held one itself.
pub record OnHeldChain (m : Model) (n : ℕ) : Type 0 where
  pub is_used : Used m n
  pub holder : ℕ
  pub is_held : held (shape_at m holder) ≡ true
  pub links : ℕ
  pub lead_here : behind m links holder ≡ n

-- Place 0 leads nowhere else.
pub behind-none : (m : Model) (k : ℕ) → behind m k 0 ≡ 0
unfolding shape_at
behind-none m zero = refl
behind-none m (suc k) = behind-none m k

behind-next : (m : Model) (k n : ℕ) → behind m (suc k) n ≡ (shape_at m (behind m k n)).previous
behind-next m zero n = refl
behind-next m (suc k) n = behind-next m k (shape_at m n).previous

-- The walks that a sweep takes, one from each held shape.
abbrev walk : Model → ℕ × Shape → List ℕ
walk m p = if held p.1 then chain m p.0 else []

abbrev walks : Model → List (List ℕ)
walks m = map (walk m) (numbered 1 m.shapes)

module _ (m : Model) (sound : Sound m) where
  -- A held shape is in use, so it is on its own chain.
  pub held_on_its_chain : (n : ℕ) → held (shape_at m n) ≡ true → OnHeldChain m n
  held_on_its_chain n h =
      let u = go (either (free_shape (shape_at m n))) in
      record { is_used = u; holder = n; is_held = h; links = 0; lead_here = refl }
    where
      go : Decided (free_shape (shape_at m n)) → Used m n
      go (inl f) = not-both h (ap held (sound.free_shapes n f))
      go (inr u) = u

  -- One link more leads to its previous.
  pub chain_closed : Closed m (OnHeldChain m)
  chain_closed =
      record {
        is_used = λ n c. c.is_used;
        previous = λ n c r. record {
          is_used = previous_used m m sound n c.is_used r;
          holder = c.holder;
          is_held = c.is_held;
          links = suc c.links;
          lead_here =
              behind-next m c.links c.holder ∙ ap (λ (k : ℕ). (shape_at m k).previous) c.lead_here;
        };
      }

  -- ## The chain as a list

  -- A shape with transitions has a previous in use with one less,
  one_less : (h count : ℕ) → Used m h → (shape_at m h).transitions ≡ suc count
      → Used m (shape_at m h).previous × ((shape_at m (shape_at m h).previous).transitions ≡ count)
  one_less h count u q =
      let s = sound.shapes h u in
      let r = transitions_child s.words (λ z. absurd (omega arith)) in
      let more = (s.child r).one_more in
      (previous_used m m sound h u r, omega arith)

  -- and one without has none.
  no_previous : (h : ℕ) → Used m h → (shape_at m h).transitions ≡ 0 → (shape_at m h).previous ≡ 0
  no_previous h u q = go (sound.shapes h u).words.state (same? (shape_at m h).previous 0)
    where
      s : Shape
      s = shape_at m h

      go : (shared s ≡ true) ⊎ (unique s ≡ true) → (s.previous ≡ 0) ⊎ (s.previous ≢ 0) → s.previous ≡ 0
      go r (inl z) = z
      go (inr r) (inr some) = ((sound.shapes h u).words.unique r).previous
      go (inl r) (inr some) =
          let more = ((sound.shapes h u).child (both-and r (rw (ne_eqb s.previous 0 some)))).one_more in
          absurd (omega arith)

  module _ (n : ℕ) where
    -- The shape at n is in use, and links lead to it from h.
    abbrev Behind : (h : ℕ) → Type 0
    Behind h = (k : ℕ) × Used m n × (behind m k h ≡ n)

    one_further : (h : ℕ) → Behind (shape_at m h).previous → Behind h
    one_further h (k, u, there) = (suc k, u, there)

    at_once : (h : ℕ) → Used m h → Decided (eqb n h) → (eqb n h ≡ false → Behind h) → Behind h
    at_once h u (inl same) later = let e = eqb-true n h same in (0, rw e u, sym e)
    at_once h u (inr other) later = later other

    -- So it is if n is on the way back from h,
    passed : (count h : ℕ) → Used m h → (shape_at m h).transitions ≡ count
        → any (eqb n) (backward count m h) ≡ true → Behind h
    passed zero h u q e =
        at_once h u (either (eqb n h)) (λ other. absurd (false≢true (or_then (eqb n h) e other)))
    passed (suc count) h u q e =
        let (v, less) = one_less h count u q in
        let later = passed count (shape_at m h).previous v less in
        at_once h u (either (eqb n h)) (λ other. one_further h (later (or_then (eqb n h) e other)))

    -- and it is on the way back from h then.
    passes : (k h count : ℕ) → Used m h → (shape_at m h).transitions ≡ count → Used m n → behind m k h ≡ n
        → any (eqb n) (backward count m h) ≡ true
    passes zero h zero u q v e = rw (eq-eqb n h (sym e))
    passes zero h (suc count) u q v e = rw (eq-eqb n h (sym e))
    passes (suc k) h zero u q v e =
        let none = ap (behind m k) (no_previous h u q) ∙ behind-none m k in
        absurd (used_place m n v (sym e ∙ none))
    passes (suc k) h (suc count) u q v e =
        let (p, less) = one_less h count u q in
        rw (passes k (shape_at m h).previous count p less v e) (or-true (eqb n h))

    -- A sweep's walks reach the shapes on the chains of the held ones.
    pub reached_on_chain : (any (eqb n) (reached m) ≡ true) ↔ OnHeldChain m n
    unfolding reached chain shape_at
    reached_on_chain = (to, from)
      where
        walk_at : (h : ℕ) → any (eqb n) (at (walks m) h []) ≡ any (eqb n) (walk m (h, shape_at m h))
        walk_at h = ap (any (eqb n)) (at-map-numbered (walk m) no_shape [] (λ k. refl) m.shapes h)

        to : any (eqb n) (reached m) ≡ true → OnHeldChain m n
        to e =
            let (h, p) = any_place (any (eqb n)) [] refl (walks m) (sym (any-flat (eqb n) (walks m)) ∙ e) in
            go h (held (shape_at m h)) refl (sym (walk_at h) ∙ p)
          where
            go : (h : ℕ) (b : Bool) → held (shape_at m h) ≡ b
                → any (eqb n) (if b then chain m h else []) ≡ true → OnHeldChain m n
            go h true q e =
                let v = (held_on_its_chain h q).is_used in
                let (k, u, there) = passed (shape_at m h).transitions h v refl e in
                record { is_used = u; holder = h; is_held = q; links = k; lead_here = there }
            go h false q e = absurd (false≢true e)

        from : OnHeldChain m n → any (eqb n) (reached m) ≡ true
        from c =
            let h = c.holder in
            let u = (held_on_its_chain h c.is_held).is_used in
            let way = passes c.links h (shape_at m h).transitions u refl c.is_used c.lead_here in
            let its : any (eqb n) (walk m (h, shape_at m h)) ≡ true = rw c.is_held way in
            any-flat (eqb n) (walks m) ∙ place-any (any (eqb n)) [] refl (walks m) h (walk_at h ∙ its)

  -- ## What a sweep keeps

  -- The shapes on the chains of the held ones are the set that stays.
  pub swept_on_chain : Swept (OnHeldChain m) m (swept m)
  unfolding swept
  swept_on_chain = swept-to (λ n. any (eqb n) (reached m)) (OnHeldChain m) m reached_on_chain

  -- A sweep leaves a sound model and keeps the shapes on the chains of the held ones.
  pub swept_keeps : Keeps m (swept m) (OnHeldChain m)
  swept_keeps = sweep_keeps sound chain_closed swept_on_chain

-- ## What a sweep frees

-- What document 01 says of a sweep of m that leaves j.
pub record Frees (m j : Model) : Type 0 where
  -- "A sweep frees exactly the shapes not held and not on the previous chain of a held one",
  pub shapes : (n : ℕ) → Used m n → Used j n ↔ ((held (shape_at m n) ≡ true) ⊎ OnHeldChain m n)
  -- "their tables when unused"
  pub tables : (t : ℕ) → free_table (table_at m t) ≡ false → (table_at j t ≡ free) ↔ ¬ (User j t)
  -- "and their own edges; other edges to a freed shape become dead".
  pub edges : (e : ℕ) → EdgeAfterSweep (OnHeldChain m) (edge_at m e) (edge_at j e)
  -- "It answers how many shapes and tables it freed."
  pub answer : perform m sweep
      ≡ ok (
        j,
        Freed
            (freed_between free_shape no_shape m.shapes j.shapes)
            (freed_between free_table free m.tables j.tables),
      )
  -- No hold is lost.
  pub holds : (n : ℕ) → (shape_at j n).holds ≡ (shape_at m n).holds

pub sweep_frees : (m : Model) → Sound m → Frees m (swept m)
unfolding perform
sweep_frees m sound =
    record {
      shapes = λ n u. a-shape n u (w.shapes n);
      tables = λ t u. a-table t u (w.tables t);
      edges = w.edges;
      answer = ap (λ a. ok (j, a)) (freed-answer w);
      holds = λ n. its-holds n (w.shapes n);
    }
  where
    j : Model
    j = swept m

    w : Swept (OnHeldChain m) m j
    w = swept_on_chain m sound

    a-shape : (n : ℕ) → Used m n → AfterSweep (OnHeldChain m n) no_shape (shape_at m n) (shape_at j n)
        → Used j n ↔ ((held (shape_at m n) ≡ true) ⊎ OnHeldChain m n)
    a-shape n u (left c e) = (λ v. inr c, λ h. ap free_shape e ∙ u)
    a-shape n u (gone away e) = (λ v. not-both (ap free_shape e) v, λ h. absurd (away (either_way h)))
      where
        either_way : (held (shape_at m n) ≡ true) ⊎ OnHeldChain m n → OnHeldChain m n
        either_way (inl h) = held_on_its_chain m sound n h
        either_way (inr c) = c

    a-table : (t : ℕ) → free_table (table_at m t) ≡ false
        → AfterSweep (User j t) free (table_at m t) (table_at j t)
        → (table_at j t ≡ free) ↔ ¬ (User j t)
    a-table t u (left user e) =
        (λ z. not-both (ap free_table z) (ap free_table e ∙ u), λ unused. absurd (unused user))
    a-table t u (gone away e) = (λ z. away, λ z. e)

    its-holds : (n : ℕ) → AfterSweep (OnHeldChain m n) no_shape (shape_at m n) (shape_at j n)
        → (shape_at j n).holds ≡ (shape_at m n).holds
    its-holds n (left c e) = ap (λ (s : Shape). s.holds) e
    its-holds n (gone away e) = ap (λ (s : Shape). s.holds) e ∙ sym (unheld (same? (shape_at m n).holds 0))
      where
        unheld : ((shape_at m n).holds ≡ 0) ⊎ ((shape_at m n).holds ≢ 0) → (shape_at m n).holds ≡ 0
        unheld (inl z) = z
        unheld (inr some) =
            absurd (away (held_on_its_chain m sound n (rw (ne_eqb (shape_at m n).holds 0 some))))
