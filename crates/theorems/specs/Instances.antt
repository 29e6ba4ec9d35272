-- Five theorems with small instances that compute. Each instance has a wrong definition (`across/*.edit`) that
-- makes it compute to something else. The theorem is false then, since it gives the instance: `.._follows`,
-- which is proved of the theorem's statement and so does not need the theorem.
-- Assumes nothing.
use Rattle.std.specs.Prelude.{Bool, true, false, List, [], ◌∷◌, ◌≡◌, refl, ℕ, eqb, length, replicate}
use Rattle.std.proofs.Common.{true≢false, inl, inr, sym, ◌∙◌, ap, subst, arith, eqb-true}
use Rattle.std.proofs.Math.Option.{Option, none, some}
use Rattle.store.specs.Lists.{last}
use Rattle.store.specs.Model.{Model, used, free, no_shape, no_edge, shape_at, edge_at}
use Rattle.store.specs.Layout.{fits, total, rows, flat, words, parse, laid_out}
use Rattle.store.specs.ListLaws.{Decided, either}
use Rattle.store.specs.declared.Limits.{Limits}
use Rattle.store.specs.declared.Entry.{Entry}
use Rattle.store.specs.declared.Edge.{Edge}
use Rattle.rules.specs.declared.ChangeTransitionAction.{ChangeTransitionAction}
use Rattle.rules.specs.Shapes.{entry}
use Rattle.rules.specs.Trails.{trail}
use Rattle.rules.specs.Steps.{chain, Step, insert}
use Rattle.rules.specs.Sound.{sound_model, sound_words}
use Rattle.rules.specs.Sweep.{found, swept}
use Rattle.rules.specs.Calls.{Call, new_root, insert_key, remove_key, change_prototype, ask, lookup, properties_of}
use Rattle.rules.specs.Calls.{Found, NotFound, slot_of, Done, Number, Reply, No, Yes, call, call_on, format}
use Rattle.rules.specs.Runner.{four_numbers}
use Rattle.rules.specs.Transcript.{answers, limits, image, shape, edge, a, b, c, s}
use Rattle.theorems.specs.Lookups.{OwnEntry, lookup_own}
use Rattle.theorems.specs.Facts.{Sound}
use Rattle.theorems.specs.SoundFacts.{sound_facts}
use Rattle.theorems.specs.FactsSound.{facts_sound}
use Rattle.theorems.specs.Entries.{keys}
use Rattle.theorems.specs.Made.{entries_at}
use Rattle.theorems.specs.Outcomes.{by_prototype}
use Rattle.theorems.specs.SweepLaws.{EdgeAfterSweep, left, died, gone}
use Rattle.theorems.specs.HeldChains.{OnHeldChain, Frees, sweep_frees}
use Rattle.theorems.specs.Quiet.{granted_by}
use Rattle.theorems.specs.CallsKeep.{call-sound}
use Rattle.theorems.specs.CallsDo.{Says, Changed, prototype_does}
use Rattle.theorems.specs.Demand3.{after_calls}
use Rattle.theorems.specs.TrailRules.{trail_without}
use Rattle.theorems.specs.CallersLog.{no_trail, trailed, Line, line, ◌∈◌, log_of, heard}
use Rattle.theorems.specs.Demand3Heard.{AnswersLine, Demand3Heard, demand3_heard}

-- ## Two images

-- Shapes 1 to 4 have no keys, a, a b, and a b c, in one table; shape 5 is 1 with prototype 9. Only 1 and 4
-- are held.
abbrev family : Model
family =
    image
    4
    (shape 1 1 0 0 0 0 0 1 1 1
    ∷ shape 1 0 1 0 1 1 0 1 1 0
    ∷ shape 1 0 2 0 2 2 0 1 1 0
    ∷ shape 1 1 3 0 3 3 0 1 0 0
    ∷ shape 1 0 1 2 1 0 9 1 0 0
    ∷ no_shape
    ∷ [])
    (used (entry a 7 0 ∷ entry b 7 1 ∷ entry c 7 2 ∷ []) ∷ [])
    (edge 1 0 a 7 2 ∷ edge 2 0 b 7 3 ∷ edge 3 0 c 7 4 ∷ edge 1 1 9 0 5 ∷ no_edge ∷ [])

family-sound : Sound family
unfolding answers fits
family-sound = sound_facts family refl refl

-- A root whose child, with the key a, was swept: the key is still in the table.
abbrev left_alone : Model
left_alone = image 1 (shape 1 1 0 0 0 0 0 1 1 0 ∷ []) (used (entry a 7 0 ∷ []) ∷ []) (edge 1 0 a 7 0 ∷ [])

-- ## A call leaves a sound model

abbrev CallSound : Type 0
CallSound = (m : Model) (c : Call) → Sound m → Sound (call m c).0

insert_leaves_sound_follows : CallSound → sound_model (call family (insert_key 4 s 7)).0 ≡ true
insert_leaves_sound_follows keeps =
    (facts_sound (call family (insert_key 4 s 7)).0 (keeps family (insert_key 4 s 7) family-sound)).1

insert_leaves_sound : sound_model (call family (insert_key 4 s 7)).0 ≡ true
unfolding answers
insert_leaves_sound = refl

-- ## A sweep cuts off the edges to freed shapes

abbrev SweepFrees : Type 0
SweepFrees = (m : Model) → Sound m → Frees m (swept m)

edge_to_freed_is_dead_follows : SweepFrees → (edge_at (swept family) 4).child ≡ 0
unfolding answers edge_at
edge_to_freed_is_dead_follows frees = go ((frees family family-sound).edges 4)
  where
    go : EdgeAfterSweep (OnHeldChain family) (edge_at family 4) (edge_at (swept family) 4)
        → (edge_at (swept family) 4).child ≡ 0
    go (left parent child e) =
        absurd (true≢false (((frees family family-sound).shapes 5 refl).1 (inr (child (λ z. omega arith)))))
    go (died parent child away e) = ap (λ (x : Edge). x.child) e
    go (gone away e) = ap (λ (x : Edge). x.child) e

edge_to_freed_is_dead : (edge_at (swept family) 4).child ≡ 0
unfolding answers edge_at
edge_to_freed_is_dead = refl

-- ## A lookup answers the shape's own entries

abbrev LookupOwn : Type 0
LookupOwn =
    (m : Model) (n k x a : ℕ) → (call m (ask n (lookup k))).1 ≡ Yes (Found x a)
    → OwnEntry m (shape_at m n) (entry k a x)

swept_key_not_found_follows : LookupOwn → (call left_alone (ask 1 (lookup a))).1 ≡ Yes NotFound
unfolding answers
swept_key_not_found_follows own = go (found a (entries_at left_alone 1)) refl
  where
    go : (o : Option Entry) → found a (entries_at left_alone 1) ≡ o → Yes (slot_of o) ≡ Yes NotFound
    go none e = refl
    go (some x) e =
        let reply = ap (λ (o : Option Entry). Yes (slot_of o)) e in
        let none_below = (own left_alone 1 a x.slot.0 x.attributes reply).below in
        absurd (omega arith)

swept_key_not_found : (call left_alone (ask 1 (lookup a))).1 ≡ Yes NotFound
unfolding answers
swept_key_not_found = refl

-- ## A change to the same prototype is a step

abbrev PrototypeDoes : Type 0
PrototypeDoes =
    (m : Model) → Sound m → (j : Model) (c : ℕ) (given : ChangeTransitionAction) (count n p : ℕ)
    → Says m (change_prototype n p) j c given count
    → Changed m n (by_prototype m n p) (keys (entries_at m n)) j c given count

-- The last of the four numbers that a reply is printed as.
abbrev count_answered : Reply → ℕ
count_answered r = last (four_numbers r) 0

same_prototype_counts_follows : PrototypeDoes → count_answered (call family (change_prototype 4 0)).1 ≡ 4
unfolding answers trail chain
same_prototype_counts_follows does =
    let did = does family family-sound _ _ _ _ 4 0 refl in
    let t = (did.of_shared refl).below (λ z. omega arith) in
    (did.answered.shared_count t.is_shared).0 ∙ ap length t.its_trail

same_prototype_counts : count_answered (call family (change_prototype 4 0)).1 ≡ 4
unfolding answers
same_prototype_counts = refl

-- ## Demand 3, as a caller hears it

abbrev HeardOfAll : Type 0
HeardOfAll =
    (l : Limits) (ws : List ℕ) → (format l ws).1 ≡ Yes Done → (cs : List Call)
    → let image = (format l ws).0 in Demand3Heard (after_calls image cs) (log_of (heard image cs))

abbrev tiny : Limits
tiny = limits 6 2 3 5

abbrev blank_words : List ℕ
blank_words = (format tiny (replicate (total tiny) 0)).0

tiny-formatted : (format tiny (replicate (total tiny) 0)).1 ≡ Yes Done
unfolding answers format
tiny-formatted = refl

-- The lines of a log, one by one.
abbrev newest : List Line → Line
newest [] = line 0 no_trail
newest (x ∷ xs) = x

abbrev older : List Line → List Line
older [] = []
older (x ∷ xs) = xs

newest_in : (xs : List Line) (r : ℕ) (ts : List Step) → (newest xs).says ≡ trailed r ts → newest xs ∈ xs
newest_in [] r ts e = let z : ◌≡◌ {A = ℕ} 0 1 = cc in absurd (omega arith)
newest_in (x ∷ xs) r ts e = inl refl

older_in : (xs : List Line) (r : ℕ) (ts : List Step) → (newest (older xs)).says ≡ trailed r ts
    → newest (older xs) ∈ xs
older_in [] r ts e = let z : ◌≡◌ {A = ℕ} 0 1 = cc in absurd (omega arith)
older_in (x ∷ xs) r ts e = inr (newest_in xs r ts e)

-- A root and a child of it have two numbers.
abbrev root_and_child : List Call
root_and_child = new_root ∷ insert_key 1 a 7 ∷ []

abbrev two_lines : List Line
two_lines = (log_of (heard blank_words root_and_child)).lines

abbrev one_number : Bool
one_number = eqb (newest two_lines).number (newest (older two_lines)).number

two_lines_say :
    ((newest two_lines).says ≡ trailed 0 (insert a 7 ∷ [])) × ((newest (older two_lines)).says ≡ trailed 0 [])
unfolding answers rows flat parse words laid_out sound_words call_on format
two_lines_say = (refl, refl)

child_has_its_own_number_follows : HeardOfAll → one_number ≡ false
child_has_its_own_number_follows heard_of = go (either one_number)
  where
    go : Decided one_number → one_number ≡ false
    go (inl q) =
        let d = heard_of tiny (replicate (total tiny) 0) tiny-formatted root_and_child in
        let (says_x, says_y) = two_lines_say in
        let x = newest two_lines in
        let y = newest (older two_lines) in
        let in_x = newest_in two_lines 0 (insert a 7 ∷ []) says_x in
        let in_y = older_in two_lines 0 [] says_y in
        let same = ((d.numbers x y in_x in_y 0 0 (insert a 7 ∷ []) [] says_x says_y
        ).0 (eqb-true x.number y.number q)).1 in
        let long : ◌≡◌ {A = ℕ} 1 0 = ap length same in
        absurd (omega arith)
    go (inr q) = q

child_has_its_own_number : one_number ≡ false
unfolding answers rows flat parse words laid_out sound_words call_on format
child_has_its_own_number = refl

-- A removal of the first of three keys leaves two.
abbrev removal : List Call
removal = new_root ∷ insert_key 1 a 7 ∷ insert_key 2 b 7 ∷ insert_key 3 c 7 ∷ remove_key 4 a ∷ []

abbrev removal_lines : List Line
removal_lines = (log_of (heard blank_words removal)).lines

abbrev keys_answered : Reply
keys_answered = (call_on (after_calls blank_words removal) (ask (newest removal_lines).number properties_of)).1

-- The image before the removal: shapes 1 to 4 have no keys, a, a b and a b c, in one table. What is computed
-- from it is shown as a number; the same from the words is too long to be shown.
abbrev three_keys : Model
three_keys =
    image
    3
    (shape 1 1 0 0 0 0 0 1 1 0
    ∷ shape 1 1 1 0 1 1 0 1 1 0
    ∷ shape 1 1 2 0 2 2 0 1 1 0
    ∷ shape 1 1 3 0 3 3 0 1 0 0
    ∷ no_shape
    ∷ no_shape
    ∷ [])
    (used (entry a 7 0 ∷ entry b 7 1 ∷ entry c 7 2 ∷ []) ∷ free ∷ [])
    (edge 1 0 a 7 2 ∷ edge 2 0 b 7 3 ∷ edge 3 0 c 7 4 ∷ no_edge ∷ no_edge ∷ [])

abbrev properties_given : Model × Reply → ℕ
properties_given (m, No r) = 0
properties_given (m, Yes x) = (shape_at m (granted_by x)).properties

abbrev keys_left : ℕ
keys_left = properties_given (call three_keys (remove_key 4 a))

removal_says : (newest removal_lines).says ≡ trailed 0 (insert b 7 ∷ insert c 7 ∷ [])
unfolding answers rows flat parse words laid_out sound_words call_on format trail_without
removal_says = refl

removal-answers : keys_answered ≡ Yes (Number keys_left)
unfolding answers rows flat parse words laid_out sound_words call_on format
removal-answers = refl

number_same : (x y : ℕ) → Yes (Number x) ≡ Yes (Number y) → x ≡ y
number_same x y e = cc

two_keys_left_follows : HeardOfAll → keys_left ≡ 2
two_keys_left_follows heard_of =
    let d = heard_of tiny (replicate (total tiny) 0) tiny-formatted removal in
    let x = newest removal_lines in
    let its = d.answers x (newest_in removal_lines 0 (insert b 7 ∷ insert c 7 ∷ []) removal_says) in
    let t = subst (AnswersLine (after_calls blank_words removal) x.number) removal_says its in
    number_same keys_left 2 (sym removal-answers ∙ t.properties)

two_keys_left : keys_left ≡ 2
unfolding answers rows flat
two_keys_left = refl

-- ## The statements above are those of the theorems

pub stated : CallSound × SweepFrees × LookupOwn × PrototypeDoes × HeardOfAll
stated = (
  call-sound,
  sweep_frees,
  lookup_own,
  λ m sound j c given count. prototype_does m sound,
  demand3_heard,
)
