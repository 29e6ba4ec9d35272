-- A shared shape's trail: its length is the transition count, it tells the contents, the way back meets its
-- beginnings, and of two shapes with one root the same trail means the same shape.
-- Assumes nothing.
use Rattle.std.proofs.Math.Bool.{true}
use Rattle.std.proofs.lemmas.Bool.{false≢true}
use Rattle.std.specs.Prelude.{List, [], ◌∷◌, ◌++◌, ◌↔◌, ◌⊎◌, ◌≢◌, ◌≡◌, eqb, take}
use Rattle.std.proofs.Common.{inl, inr, ◌∙◌, ap₂, arith, eqb-true, eq-eqb, length-append, take_all}
use Rattle.std.proofs.Math.Path.{refl, sym, ap}
use Prim.Native.Nat.{ℕ, zero, suc, ◌≤◌}
use Rattle.std.proofs.Math.ListN.{length}
use Rattle.std.proofs.lemmas.List.{take-append-le}
use Rattle.store.specs.Lists.{any, last}
use Rattle.store.specs.Model.{Model, shape_at, edge_at}
use Rattle.store.specs.PlaceLaws.{same?}
use Rattle.store.specs.ListLaws.{or_then, then_or, Decided, either, same_ends}
use Rattle.rules.specs.Shapes.{is_root}
use Rattle.rules.specs.Steps.{Step, edge_of, step_entries, step_prototype, backward, chain}
use Rattle.rules.specs.Trails.{made_by, trail_of, trail, root}
use Rattle.theorems.specs.Facts.{Sound}
use Rattle.theorems.specs.Made.{SharedAt, entries_at, prototype_at, previous_at, transitions_at, Made, made}
use Rattle.theorems.specs.Made.{at-root}
use Rattle.theorems.specs.InTurn.{steps_entries, steps_prototype, LegalInTurn, entries-append}
use Rattle.theorems.specs.InTurn.{prototype_append, legal_append}

-- ## Statements

-- The steps lead from nothing to a shape's contents, each legal where it is taken.
pub record TellsContents (m : Model) (n : ℕ) (ts : List Step) : Type 0 where
  pub legal : LegalInTurn ts []
  pub its_entries : entries_at m n ≡ steps_entries ts []
  pub its_prototype : prototype_at m n ≡ steps_prototype ts 0

-- The place is on the way back from n to its root.
abbrev pub OnChain : Model → (n place : ℕ) → Type 0
OnChain m n p = any (eqb p) (chain m n) ≡ true

-- The shape at p has the root of n, and its trail begins the trail of n.
pub record Begins (m : Model) (n p : ℕ) : Type 0 where
  pub is_shared : SharedAt m p
  pub same_root : root m p ≡ root m n
  pub early : transitions_at m p ≤ transitions_at m n
  pub begins : trail m p ≡ take (transitions_at m p) (trail m n)

-- ## The length

module _ (m : Model) where
  length_of : (count n : ℕ) → length (trail_of count m n) ≡ count
  length_of zero n = refl
  length_of (suc count) n =
      let before = length_of count (previous_at m n) in
      length-append (trail_of count m (previous_at m n)) (made_by m n ∷ []) ∙ omega arith

  -- "its transition count is the trail's length"
  pub trail-length : (n : ℕ) → length (trail m n) ≡ transitions_at m n
  unfolding trail
  trail-length n = length_of (transitions_at m n) n

-- The last of a way back does not hang on the default.
last-back : (m : Model) (count n d : ℕ) → last (backward count m n) d ≡ last (backward count m n) n
last-back m zero n d = refl
last-back m (suc count) n d = refl

module _ (m : Model) (sound : Sound m) where
  -- ## The contents

  contents : (count n : ℕ) → SharedAt m n → transitions_at m n ≡ count → TellsContents m n (trail_of count m n)
  contents zero n h e =
      let r = at-root m sound n h e in
      record { legal = tt; its_entries = r.no_entries; its_prototype = r.no_prototype }
  contents (suc count) n h e =
      let k = made m sound n count h e in
      let p = previous_at m n in
      let ts = trail_of count m p in
      let t = made_by m n in
      let c = contents count p k.previous_shared k.one_less in
      record {
        legal = legal_append ts (t ∷ []) [] c.legal (k.good, rw (← c.its_entries) k.may, tt);
        its_entries = k.its_entries ∙ ap (step_entries t) c.its_entries ∙ sym (entries-append ts (t ∷ []) []);
        its_prototype =
            k.its_prototype ∙ ap (step_prototype t) c.its_prototype ∙ sym (prototype_append ts (t ∷ []) 0);
      }

  -- The trail tells the contents.
  pub trail_contents : (n : ℕ) → SharedAt m n → TellsContents m n (trail m n)
  unfolding trail
  trail_contents n h = contents (transitions_at m n) n h refl

  -- ## The same trail, the same shape

  -- Two shapes that one step made from one shape are one.
  same_child : (n k : ℕ) {count : ℕ} → Made m n count (made_by m n) → Made m k count (made_by m k)
      → previous_at m n ≡ previous_at m k → made_by m n ≡ made_by m k → n ≡ k
  same_child n k a b previous step =
      let alike = a.its_edge ∙ ap₂ (λ (p : ℕ) (t : Step). edge_of p t 0) previous step ∙ sym b.its_edge in
      let same = sound.not_alike a.edge b.edge a.edge_used alike in
      sym a.leads_here ∙ ap (λ (e : ℕ). (edge_at m e).child) same ∙ b.leads_here

  same_from : (count n k : ℕ) → SharedAt m n → SharedAt m k
      → transitions_at m n ≡ count → transitions_at m k ≡ count
      → last (backward count m n) n ≡ last (backward count m k) k
      → trail_of count m n ≡ trail_of count m k → n ≡ k
  same_from zero n k h g e f roots trails = roots
  same_from (suc count) n k h g e f roots trails =
      let a = made m sound n count h e in
      let b = made m sound k count g f in
      let p = previous_at m n in
      let q = previous_at m k in
      let (before, by) = same_ends (trail_of count m p) (trail_of count m q) (made_by m n) (made_by m k) trails in
      let ends = sym (last-back m count p n) ∙ roots ∙ last-back m count q k in
      let again = same_from count p q a.previous_shared b.previous_shared a.one_less b.one_less in
      same_child n k a b (again ends before) by

  -- Of two shared shapes with one root: the same number exactly when the same trail.
  pub same_trail_lem : (n k : ℕ) → SharedAt m n → SharedAt m k → root m n ≡ root m k
      → (n ≡ k) ↔ (trail m n ≡ trail m k)
  unfolding trail root chain
  same_trail_lem n k h g roots = (λ e. ap (trail m) e, same)
    where
      same : trail m n ≡ trail m k → n ≡ k
      same e =
          let count : transitions_at m k ≡ transitions_at m n
          = sym (trail-length m k) ∙ ap length (sym e) ∙ trail-length m n in
          same_from (transitions_at m n) n k h g refl count (rw count at roots) (rw count at e)

  -- ## The way back

  -- Trail, way back and root of a shape by those of its previous.
  module _ (n count : ℕ) (h : SharedAt m n) (e : transitions_at m n ≡ suc count) where
    less : transitions_at m (previous_at m n) ≡ count
    less = (made m sound n count h e).one_less

    pub trail-before : trail m n ≡ trail m (previous_at m n) ++ made_by m n ∷ []
    unfolding trail
    trail-before = rw (e, less)

    chain-before : chain m n ≡ n ∷ chain m (previous_at m n)
    unfolding chain
    chain-before = rw (e, less)

    pub root_before : root m n ≡ root m (previous_at m n)
    unfolding root chain
    root_before = rw (e, less) (last-back m count (previous_at m n) n)

  first_on_chain : (n : ℕ) → OnChain m n n
  unfolding chain
  first_on_chain n = go (transitions_at m n)
    where
      go : (count : ℕ) → any (eqb n) (backward count m n) ≡ true
      go zero = rw (eq-eqb n n refl)
      go (suc count) = rw (eq-eqb n n refl)

  -- One shape further back.
  on_chain_before : (n count : ℕ) → SharedAt m n → transitions_at m n ≡ suc count
      → (p : ℕ) → OnChain m (previous_at m n) p → OnChain m n p
  on_chain_before n count h e p on = rw (chain-before n count h e) (then_or (eqb p n) (λ z. on))

  begins_before : (n count : ℕ) → SharedAt m n → transitions_at m n ≡ suc count
      → (p : ℕ) → Begins m (previous_at m n) p → Begins m n p
  begins_before n count h e p b =
      let q = previous_at m n in
      let l = less n count h e in
      let short : transitions_at m p ≤ length (trail m q) = omega (arith, b.early, trail-length m q) in
      record {
        is_shared = b.is_shared;
        same_root = b.same_root ∙ sym (root_before n count h e);
        early = omega (arith, b.early);
        begins = rw (trail-before n count h e, take-append-le) b.begins;
      }

  root-from : (count n : ℕ) → SharedAt m n → transitions_at m n ≡ count
      → (is_root (shape_at m (root m n)) ≡ true) × OnChain m n (root m n)
  unfolding root chain
  root-from zero n h e =
      let r = at-root m sound n h e in
      (rw e r.is_a_root, rw e (rw (eq-eqb n n refl)))
  root-from (suc count) n h e =
      let k = made m sound n count h e in
      let (is, on) = root-from count (previous_at m n) k.previous_shared k.one_less in
      rw (root_before n count h e) (is, on_chain_before n count h e _ on)

  -- The root is one, and it is on the way back.
  pub root_is_root : (n : ℕ) → SharedAt m n → (is_root (shape_at m (root m n)) ≡ true) × OnChain m n (root m n)
  root_is_root n h = root-from (transitions_at m n) n h refl

  begins_self : (n : ℕ) → SharedAt m n → Begins m n n
  begins_self n h =
      let whole = trail-length m n in
      record {
        is_shared = h;
        same_root = refl;
        early = omega arith;
        begins = sym (take_all (transitions_at m n) (trail m n) (omega arith));
      }

  chain_begins : (count n : ℕ) → SharedAt m n → transitions_at m n ≡ count
      → (p : ℕ) → OnChain m n p → Begins m n p
  unfolding chain
  chain_begins zero n h e p on = go (either (eqb p n))
    where
      go : Decided (eqb p n) → Begins m n p
      go (inl q) = rw (eqb-true p n q) (begins_self n h)
      go (inr q) = absurd (false≢true (or_then (eqb p n) (rw e at on) q))
  chain_begins (suc count) n h e p on =
      go (either (eqb p n)) (chain_begins count (previous_at m n) k.previous_shared k.one_less p)
    where
      k : Made m n count (made_by m n)
      k = made m sound n count h e

      go : Decided (eqb p n)
          → (OnChain m (previous_at m n) p → Begins m (previous_at m n) p) → Begins m n p
      go (inl q) again = rw (eqb-true p n q) (begins_self n h)
      go (inr q) again =
          begins_before n count h e p (again (or_then (eqb p n) (rw (chain-before n count h e) at on) q))

  -- A beginning that is as long is the shape itself.
  whole_begins : (n p : ℕ) → SharedAt m n → Begins m n p → transitions_at m p ≡ transitions_at m n → p ≡ n
  whole_begins n p h b e =
      let whole = trail-length m n in
      let same = b.begins ∙ take_all (transitions_at m p) (trail m n) (omega arith) in
      (same_trail_lem p n b.is_shared h b.same_root).1 same

  begins_chain : (count n : ℕ) → SharedAt m n → transitions_at m n ≡ count
      → (p : ℕ) → Begins m n p → OnChain m n p
  begins_chain zero n h e p b = rw (whole_begins n p h b (omega (arith, b.early))) (first_on_chain n)
  begins_chain (suc count) n h e p b =
      go (same? (transitions_at m p) (transitions_at m n))
      (begins_chain count q (made m sound n count h e).previous_shared (less n count h e) p)
    where
      q : ℕ
      q = previous_at m n

      go : (transitions_at m p ≡ transitions_at m n) ⊎ (transitions_at m p ≢ transitions_at m n)
          → (Begins m (previous_at m n) p → OnChain m (previous_at m n) p) → OnChain m n p
      go (inl same) again = rw (whole_begins n p h b same) (first_on_chain n)
      go (inr other) again =
          let l = less n count h e in
          let short : transitions_at m p ≤ length (trail m q) = omega (arith, b.early, trail-length m q) in
          on_chain_before n count h e p (again record {
            is_shared = b.is_shared;
            same_root = b.same_root ∙ root_before n count h e;
            early = omega (arith, b.early);
            begins = rw (trail-before n count h e, take-append-le) at b.begins;
          })

  -- On the way back are exactly the shapes of the same root whose trails begin the trail.
  pub on_chain : (n p : ℕ) → SharedAt m n → OnChain m n p ↔ Begins m n p
  on_chain n p h =
      (chain_begins (transitions_at m n) n h refl p, begins_chain (transitions_at m n) n h refl p)
