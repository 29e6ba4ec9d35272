-- Key order is ECMA-262's after any calls on a formatted image: for each number runs the property list that
-- ECMA-262's operations build, and the key list of every held shape is OrdinaryOwnPropertyKeys of its list.
-- Assumes nothing.
use Rattle.std.specs.Prelude.{true, false, ◌&&◌, List, [], ◌∷◌, ◌⊎◌, ◌≢◌, ◌≡◌, refl, ℕ, eqb, ltb, length}
use Rattle.std.proofs.Common.{inl, inr, sym, ◌∙◌, ap, arith, eqb-true, eq-eqb, ne_eqb}
use Rattle.std.specs.Prelude.{if◌then◌else◌}
use Rattle.store.specs.Model.{Model, shape_at}
use Rattle.store.specs.Layout.{parse}
use Rattle.store.specs.PlaceLaws.{same?}
use Rattle.store.specs.ListLaws.{and_both, Decided, either}
use Rattle.store.specs.declared.Limits.{Limits}
use Rattle.rules.specs.declared.ChangeTransitionAction.{ChangeTransitionAction}
use Rattle.rules.specs.declared.Refusal.TheVariants.{NoShape, OutShort}
use Rattle.rules.specs.Shapes.{unique}
use Rattle.rules.proofs.Settled.{guard_passed, same_given, call_answered}
use Rattle.rules.proofs.Formatted.{format-sound, format-unheld}
use Rattle.rules.proofs.FirstLaws.{refused_call}
use Rattle.rules.specs.Sound.{sound}
use Rattle.rules.specs.Sweep.{key_list}
use Rattle.rules.specs.Trails.{trail}
use Rattle.rules.specs.Ecma.{Properties, create, change, delete, own_property_keys}
use Rattle.rules.specs.Calls.{Call, new_root, new_unique, insert_key, change_key, remove_key, change_prototype, hold}
use Rattle.rules.specs.Calls.{release, previous, sweep, ask, keys_into, Answer, Done, Reply, No, Yes, unheld}
use Rattle.rules.specs.Calls.{list_into, perform, call, call_on, format}
use Rattle.theorems.specs.Facts.{Sound, used_place}
use Rattle.theorems.specs.Entries.{keys}
use Rattle.theorems.specs.Made.{entries_at, previous_at}
use Rattle.theorems.specs.Quiet.{granted_by, raw_holds}
use Rattle.theorems.specs.CallsKeep.{HeldAt, held_used, changed_by, called, call_keeps_held}
use Rattle.theorems.specs.CallsDo.{Says, insert_does, change_does, removal_does, prototype_does, hold_does}
use Rattle.theorems.specs.CallsDo.{previous_does}
use Rattle.theorems.specs.Replied.{Shows, shows?, says, LeftAt, is_answer, is_emptied, left_at}
use Rattle.theorems.specs.Replied.{release_gives_none, sweep_gives_none, question_gives_none}
use Rattle.theorems.specs.EcmaOrder.{StandsFor, built, stands_keys, root_stands, unique_stands}
use Rattle.theorems.specs.EcmaOrder.{insert_stands, change_stands, removal_stands, prototype_stands}
use Rattle.theorems.specs.EcmaOrder.{hold_stands, previous_stands}
use Rattle.theorems.specs.WordsKeep.{sound-read, sound-call}
use Rattle.theorems.specs.Demand3.{after_calls, after-sound}

-- ## The statement

-- For each number a list of properties.
abbrev pub Lists : Type 0
Lists = ℕ → Properties

-- What ECMA-262's operation makes of the lists where a call answers a shape. A previous is no operation of
-- ECMA-262's: its list is the one that its trail builds. The calls at the end answer no shape.
abbrev pub operation : Model → Call → Lists → Properties
operation m new_root ls = []
operation m new_unique ls = []
operation m (insert_key n k a) ls = create k a (ls n)
operation m (change_key n k a) ls = change k a (ls n)
operation m (remove_key n k) ls = delete k (ls n)
operation m (change_prototype n p) ls = ls n
operation m (hold n) ls = ls n
operation m (previous n) ls = built (trail m (previous_at m n)) []
operation m (release n) ls = []
operation m sweep ls = []
operation m (ask n q) ls = []

-- The lists after a call and its reply: the answered number gets the operation's list, and a unique whose
-- keys went to another number gets the empty one. (A shared number that is given anew gets the newest list.)
abbrev pub lists_after : Model → Call → Reply → Lists → Lists
lists_after m c (No r) ls = ls
lists_after m c (Yes a) ls =
    λ k.
    if eqb k (granted_by a) then operation m c ls
    else if eqb k (changed_by c) && unique (shape_at m k) then []
    else ls k

-- The lists after a list of calls on the words ws.
abbrev pub lists_over : List ℕ → List Call → Lists → Lists
lists_over ws [] ls = ls
lists_over ws (c ∷ cs) ls = lists_over (call_on ws c).0 cs (lists_after (parse ws) c (call_on ws c).1 ls)

-- What is said of the shape at n in the words ws and of its list: the keys are the list's, in the same order;
-- the key list is OrdinaryOwnPropertyKeys of the list; and the call for it, if not refused, answers that.
pub record KeyOrder (ws : List ℕ) (n : ℕ) (ps : Properties) : Type 0 where
  pub stands : StandsFor (parse ws) n ps
  pub key_order : key_list (entries_at (parse ws) n) ≡ own_property_keys ps
  pub listed : (out : List ℕ) (a : Answer) → (call_on ws (ask n (keys_into out))).1 ≡ Yes a
      → a ≡ list_into (own_property_keys ps) out

-- Each held shape's list stands for it.
abbrev AllStand : Model → Lists → Type 0
AllStand m ls = (n : ℕ) → HeldAt m n → StandsFor m n (ls n)

-- ## One call

module _ (m : Model) (sound : Sound m) where
  module _ (ls : Lists) (all : AllStand m ls) where
    -- The operation's list stands for the answer.
    answer_stands : (c : Call) {j : Model} {x : ℕ} {given : ChangeTransitionAction} {count : ℕ}
        → Says m c j x given count → x ≢ 0 → StandsFor j x (operation m c ls)
    answer_stands new_root e place = root_stands m sound e
    answer_stands new_unique e place = unique_stands m sound e
    answer_stands (insert_key n k a) e place =
        insert_stands m sound n k a (ls n) e (all n (insert_does m sound n k a e).was_held)
    answer_stands (change_key n k a) e place =
        change_stands m sound n k a (ls n) e (all n (change_does m sound n k a e).0.was_held)
    answer_stands (remove_key n k) e place =
        removal_stands m sound n k (ls n) e (all n (removal_does m sound n k e).was_held)
    answer_stands (change_prototype n p) e place =
        prototype_stands m sound n p (ls n) e (all n (prototype_does m sound n p e).was_held)
    answer_stands (hold n) e place = hold_stands m sound n (ls n) e (all n (hold_does m sound n e).0)
    answer_stands (previous n) e place =
        rw (← (previous_does m sound n e).its) (previous_stands m sound n e place)
    answer_stands (release n) e place = absurd (place (release_gives_none m sound n e))
    answer_stands sweep e place = absurd (place (sweep_gives_none m sound e))
    answer_stands (ask n q) e place = absurd (place (question_gives_none m sound n q e))

  -- A unique whose keys went to another number has none.
  old_empty : (c : Call) (a : Answer) (k : ℕ) → k ≢ granted_by a → LeftAt (call m c).0 k (granted_by a)
      → StandsFor (call m c).0 k []
  old_empty c a k other (is_answer here is) = absurd (other here)
  old_empty c a k other (is_emptied q left) = ap keys left.contents.its_entries

  -- Any list that stands for a held shape stands for it after a call, unless the call changes that unique:
  -- two objects that have one shape may each keep a list of their own.
  others_stand : (c : Call) (k : ℕ) (ps : Properties) → HeldAt m k
      → (eqb k (changed_by c) && unique (shape_at m k)) ≡ false → StandsFor m k ps
      → StandsFor (call m c).0 k ps
  others_stand c k ps is_held other s =
      ap keys (call_keeps_held m sound k is_held c other).same_entries ∙ s

  -- A shape that is held after a call, and is not its answer, was held before.
  was_held_lem : (c : Call) (a : Answer) → (call m c).1 ≡ Yes a → (k : ℕ) → HeldAt (call m c).0 k → k ≢ 0
      → k ≢ granted_by a → HeldAt m k
  was_held_lem c a e k is_held place other none =
      let j = (call m c).0 in
      let after = called m sound c in
      let now = raw_holds j after.keeps.is_sound k in
      let before = raw_holds m sound k in
      let follow = rw (e, ne_eqb (granted_by a) k (λ q. other (sym q))) at (after.holds k place) in
      is_held (omega arith)

  module _ (ls : Lists) (all : AllStand m ls) where
    call_stands : (c : Call) → AllStand (call m c).0 (lists_after m c (call m c).1 ls)
    call_stands c k is_held = go (call m c).1 refl
      where
        j : Model
        j = (call m c).0

        place : k ≢ 0
        place = used_place j k (held_used j (called m sound c).keeps.is_sound k is_held)

        go : (r : Reply) → (call m c).1 ≡ r → StandsFor j k (lists_after m c r ls k)
        go (No r) e =
            let same = refused_call m c r e in
            rw same (all k (rw same at is_held))
        go (Yes a) e = here (same? k (granted_by a))
          where
            answered : k ≡ granted_by a → Shows a ⊎ (granted_by a ≡ 0) → StandsFor j k (operation m c ls)
            answered q (inl s) =
                let its = q ∙ ap granted_by s.its in
                rw its (answer_stands ls all c (says m sound c a e s) (λ z. place (its ∙ z)))
            answered q (inr none) = absurd (place (q ∙ none))

            other : k ≢ granted_by a → Decided (eqb k (changed_by c) && unique (shape_at m k))
                → StandsFor j k (if eqb k (changed_by c) && unique (shape_at m k) then [] else ls k)
            other ne (inl old) =
                let (q, r) = and_both (eqb k (changed_by c)) old in
                rw old (old_empty c a k ne (left_at m sound c a e k place (eqb-true k (changed_by c) q) r))
            other ne (inr not-old) =
                let before = was_held_lem c a e k is_held place ne in
                rw not-old (others_stand c k (ls k) before not-old (all k before))

            here : (k ≡ granted_by a) ⊎ (k ≢ granted_by a) → StandsFor j k (lists_after m c (Yes a) ls k)
            here (inl q) = rw (eq-eqb k (granted_by a) q) (answered q (shows? a))
            here (inr ne) =
                let old = eqb k (changed_by c) && unique (shape_at m k) in
                rw (ne_eqb k (granted_by a) ne) (other ne (either old))

-- ## Any calls on a formatted image

stand_over : (ws : List ℕ) (cs : List Call) (ls : Lists) → sound ws ≡ true → AllStand (parse ws) ls
    → AllStand (parse (after_calls ws cs)) (lists_over ws cs ls)
stand_over ws [] ls e all = all
stand_over ws (c ∷ cs) ls e all =
    let k = sound-call ws c e in
    let one = call_stands (parse ws) (sound-read ws e).is_sound ls all c in
    stand_over (call_on ws c).0 cs (lists_after (parse ws) c (call_on ws c).1 ls) k.is_sound
    (rw (k.model, k.reply) one)

key_order_of : (ws : List ℕ) → sound ws ≡ true → (n : ℕ) (ps : Properties) → StandsFor (parse ws) n ps
    → KeyOrder ws n ps
unfolding perform
key_order_of ws e n ps stands =
    let m = parse ws in
    let order = stands_keys m n ps stands in
    record {
      stands = stands;
      key_order = order;
      listed = λ out a reply.
          let told = sym (sound-call ws (ask n (keys_into out)) e).reply ∙ reply in
          let done = (call_answered m (ask n (keys_into out)) a told).1 in
          let ks = key_list (entries_at m n) in
          let p = guard_passed NoShape (unheld m n) _ _ done in
          let q = guard_passed OutShort (ltb (length out) (length ks)) _ _ p.1 in
          let its : list_into ks out ≡ a = ap (λ (x : Model × Answer). x.1) (same_given q.1) in
          sym its ∙ ap (λ (js : List ℕ). list_into js out) order;
    }

-- Key order is ECMA-262's: after any calls on a formatted image, refused ones and sweeps among them, the keys
-- of every held shape are those of the list that ECMA-262's operations built for its number, in that order.
pub key_order_lem : (l : Limits) (ws : List ℕ) → (format l ws).1 ≡ Yes Done
    → (cs : List Call) (n : ℕ) → let image = (format l ws).0 in
    HeldAt (parse (after_calls image cs)) n
    → KeyOrder (after_calls image cs) n (lists_over image cs (λ k. []) n)
key_order_lem l ws e cs n is_held =
    let image = (format l ws).0 in
    let is_sound = format-sound l ws e in
    key_order_of (after_calls image cs) (after-sound image cs is_sound) n (lists_over image cs (λ k. []) n)
    (stand_over image cs (λ k. []) is_sound (λ k some. absurd (some (format-unheld l ws e k))) n is_held)
