-- The walk back from a shape that holds a key: what is known at each shape, how it goes on, and how it ends.
-- Assumes nothing.
use Rattle.std.specs.Prelude.{true, false, ◌||◌, ◌≢◌, ◌≡◌, refl, ℕ, zero, suc, ◌+◌, ◌-◌, ◌≤◌, ◌<◌, eqb, length, get_or, take, drop, None, Option, Some}
use Rattle.std.proofs.lemmas.Bool.{false≢true}
use Rattle.std.proofs.Math.Bool.{or-false}
use mathlib.Core.List.{List, [], ◌∷◌, map}
use Rattle.std.proofs.Common.{inl, inr, sym, ◌∙◌, arith, drop_of_length-le, take-suc}
use Rattle.std.proofs.Math.Path.{ap}
use Rattle.std.proofs.lemmas.List.{length-map}
use Rattle.store.specs.Lists.{any, last}
use Rattle.store.specs.Model.{Model, no_entry, shape_at}
use Rattle.store.specs.ListLaws.{Decided, either, any_append, last-append}
use Rattle.store.specs.Image.{Place}
use Rattle.store.specs.declared.Shape.{Shape}
use Rattle.store.specs.declared.Entry.{Entry}
use Rattle.rules.specs.Shapes.{entry, is_key, has, widths}
use Rattle.rules.specs.Steps.{Step, insert, configure, prototype, backward, chain, prototype_step, last_of}
use Rattle.rules.specs.Steps.{inserts, remember, same_key, yields, back, rollback}
use Rattle.rules.specs.Trails.{made_by}
use Rattle.rules.specs.declared.Step.{Step as StepValue}
use Rattle.rules.specs.Placing.{step_in}
use Rattle.rules.specs.InUse.{Tabled, shared_used, used_table_inside}
use Rattle.theorems.specs.Facts.{Sound, used_place_inside}
use Rattle.theorems.specs.Entries.{has-configured}
use Rattle.theorems.specs.Made.{SharedAt, entries_at, transitions_at, Made, made, at-root}
use Rattle.theorems.specs.Rollback.{rolled_back}
use Rattle.rollback.specs.StepsFrom.{StepsFrom, places_left}

-- ## One shape of the walk

shared_tabled : (m : Model) → Sound m → (n : ℕ) → SharedAt m n → Tabled m (shape_at m n)
shared_tabled m sound n h =
    let s = shape_at m n in
    let its = sound.shapes n (shared_used s h) in
    record { table = used_table_inside m s.table its.table_used; fits = its.count_fits }

pub shared-place : (m : Model) (n : ℕ) → SharedAt m n → Place (length m.shapes) n
shared-place m n h = used_place_inside m n (shared_used (shape_at m n) h)

-- The last entry, by the shape's property count.
pub no_last : (es : List Entry) {n : ℕ} → n ≡ 0 → no_entry ≡ last (take n es) no_entry
no_last es none = rw none

pub last-read : (es : List Entry) {n : ℕ} {e : Entry} → n ≤ length es → n ≢ 0
    → e ≡ get_or es (n - 1) no_entry → e ≡ last (take n es) no_entry
last-read es {n} {e} inside some read =
    let more : n ≡ suc (n - 1) = omega arith in
    let whole = ap (λ (k : ℕ). take k es) more ∙ take-suc es (n - 1) no_entry (omega arith) in
    read ∙ sym (rw whole (last-append (take (n - 1) es) (get_or es (n - 1) no_entry) no_entry))

-- The remembered prototype step, if there is one.
abbrev pub newest_of : Option ℕ → List Step
newest_of (Some p) = prototype p ∷ []
newest_of None = []

-- A shape that is passed adds at most one step.
one_more : (m : Model) (key : ℕ) (s : Shape) (ps ts : List Step)
    → length (remember s ps) + length (yields m key s ts) ≤ length ps + length ts + 1
one_more m key s ps ts = go ps (either (prototype_step s)) yielded
  where
    e : Entry
    e = last_of m s

    yielded : length (yields m key s ts) ≤ length ts + 1
    yielded = by (either (prototype_step s || is_key key e || any (same_key e.key) ts))
      where
        by : Decided (prototype_step s || is_key key e || any (same_key e.key) ts)
            → length (yields m key s ts) ≤ length ts + 1
        by (inl passed) = rw passed (omega arith)
        by (inr new) = rw new (omega arith)

    go : (ps : List Step) → Decided (prototype_step s) → length (yields m key s ts) ≤ length ts + 1
        → length (remember s ps) + length (yields m key s ts) ≤ length ps + length ts + 1
    go [] (inl is) h = rw is (omega arith)
    go [] (inr other) h = let none : length (remember s []) ≡ 0 = rw other in omega arith
    go (p ∷ ps) is h = omega arith

-- ## The walk

-- What the walk back from n knows at the shape at p, with the prototype ps and the yields ts remembered.
pub record Walking (m : Model) (n key p : ℕ) (ps ts : List Step) : Type 0 where
  is_shared : SharedAt m p
  holds_key : has key (entries_at m p) ≡ true
  rest : back m key (map (shape_at m) (chain m p)) ps ts ≡ rollback m n key
  short : transitions_at m p + (length ps + length ts) ≤ transitions_at m n

module _ {m : Model} (sound : Sound m) {n key p : ℕ} {ps ts : List Step} (w : Walking m n key p ps ts) where
  abbrev s : Shape
  s = shape_at m p

  -- A shape that holds a key is no root: there is one before it.
  record Before : Type 0 where
    count : ℕ
    more : transitions_at m p ≡ suc count

  before : Before
  before = go (transitions_at m p) refl
    where
      go : (count : ℕ) → transitions_at m p ≡ count → Before
      go zero e =
          let none = (at-root m sound p w.is_shared e).no_entries in
          absurd (false≢true (ap (has key) (sym none) ∙ w.holds_key))
      go (suc count) e = record { count = count; more = e }

  its : Made m p before.count (made_by m p)
  its = made m sound p before.count w.is_shared before.more

  chain_here : map (shape_at m) (chain m p) ≡ s ∷ map (shape_at m) (chain m s.previous)
  unfolding chain
  chain_here =
      ap (λ (count : ℕ). map (shape_at m) (backward count m p)) before.more
      ∙ ap (λ (count : ℕ). s ∷ map (shape_at m) (backward count m s.previous)) (sym its.one_less)

  -- The key's insert step is not met, so that the shape before holds the key too.
  holds-before : (t : Step) → Made m p before.count t → inserts m key s ≡ false
      → has key (entries_at m s.previous) ≡ true
  holds-before (insert j a) by other =
      let es = entries_at m s.previous in
      let end = ap (λ (xs : List Entry). last xs no_entry) by.its_entries
      ∙ last-append es (entry j a (widths es)) no_entry in
      let differs : eqb j key ≡ false = rw (← by.its_kind, end) at other in
      rw (by.its_entries, any_append, differs, or-false) at w.holds_key
  holds-before (configure j a) by other =
      rw (by.its_entries, has-configured key j a (entries_at m s.previous)) at w.holds_key
  holds-before (prototype to) by other = rw by.its_entries at w.holds_key

  walk_on : inserts m key s ≡ false → Walking m n key s.previous (remember s ps) (yields m key s ts)
  walk_on other =
      record {
        is_shared = its.previous_shared;
        holds_key = holds-before (made_by m p) its other;
        rest = sym (rw (chain_here, other)) ∙ w.rest;
        short = omega (arith, w.short, before.more, its.one_less, one_more m key s ps ts);
      }

  walk_end : inserts m key s ≡ true
      → rollback m n key ≡ record { base = s.previous; newest = ps; yielded = ts }
  walk_end is = sym w.rest ∙ rw (chain_here, is)

-- ## The loop

-- The walk stands at the shape s; the yields stand in the slice from `start` on.
pub record Walked (m : Model) (n key : ℕ) (from now : List StepValue) (s : Shape) (start : ℕ)
    (newest : Option ℕ) : Type 0 where
  pub place : ℕ
  pub here : s ≡ shape_at m place
  pub walking : Walking m n key place (newest_of newest) (drop start (map step_in now))
  pub long : length now ≡ length from
  pub inside : start ≤ length now

pub walk_start : {m : Model} {n key : ℕ} {xs : List StepValue} {s : Shape} {start : ℕ} → SharedAt m n
    → has key (entries_at m n) ≡ true → s ≡ shape_at m n → start ≡ length xs
    → Walked m n key xs xs s start None
unfolding rollback
walk_start {n = n} {xs = xs} {start = start} h holds its end =
    let none = drop_of_length-le (map step_in xs) {i = start} (rw (length-map, end) (omega arith)) in
    record {
      place = n;
      here = its;
      walking = rw none
          record { is_shared = h; holds_key = holds; rest = refl; short = omega arith };
      long = refl;
      inside = omega arith;
    }

module _ {m : Model} (sound : Sound m) {n key : ℕ} {from now : List StepValue} {s : Shape} {start : ℕ}
    {newest : Option ℕ} (h : Walked m n key from now s start newest) where
  pub walk_tabled : Tabled m s
  walk_tabled = rw h.here (shared_tabled m sound h.place h.walking.is_shared)

  pub walk_previous : Place (length m.shapes) s.previous
  walk_previous =
      let p = (shape_at m h.place).previous in
      rw h.here (shared-place m p (its sound h.walking).previous_shared)

  -- The shapes passed have added no more than a step each, and there is one before s.
  pub walk-room : SharedAt m n → 1024 ≤ length from → 1 ≤ start
  walk-room g room =
      let few = (sound.shapes n (shared_used (shape_at m n) g)).words.transitions in
      let here : StepsFrom now start (drop start (map step_in now))
      = record { inside = h.inside; steps = refl } in
      places_left from here h.long room
      (omega (arith, h.walking.short, (before sound h.walking).more))

  pub walk-less : {after : Shape} → after ≡ shape_at m s.previous → after.transitions < s.transitions
  walk-less next =
      rw (next, h.here) (omega (arith, (before sound h.walking).more, (its sound h.walking).one_less))

  pub walk-next : {later : List StepValue} {after : Shape} {start' : ℕ} {newest' : Option ℕ}
      → inserts m key s ≡ false → newest_of newest' ≡ remember s (newest_of newest)
      → StepsFrom later start' (yields m key s (drop start (map step_in now))) → length later ≡ length now
      → after ≡ shape_at m s.previous → Walked m n key from later after start' newest'
  walk-next other remembered yielded same next =
      let on = walk_on sound h.walking (rw h.here at other) in
      record {
        place = s.previous;
        here = next;
        walking = rw (← h.here, ← remembered, ← yielded.steps) at on;
        long = same ∙ h.long;
        inside = yielded.inside;
      }

  pub walk_done : inserts m key s ≡ true
      → rollback m n key
      ≡ record { base = s.previous; newest = newest_of newest; yielded = drop start (map step_in now) }
  walk_done is = rw (← h.here) at (walk_end sound h.walking (rw h.here at is))

-- What the walk has remembered at its end: with the key's own step it is no longer than a trail.
pub remembered_few : (m : Model) → Sound m → (n key : ℕ) → SharedAt m n → has key (entries_at m n) ≡ true
    → length (rollback m n key).newest + (1 + length (rollback m n key).yielded) ≤ 1024
remembered_few m sound n key h holds =
    let short = (rolled_back m sound n key h holds).short in
    let few = (sound.shapes n (shared_used (shape_at m n) h)).words.transitions in
    omega arith
