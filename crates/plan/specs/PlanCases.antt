-- Plans beside the steps themselves on small images: each refusal in the first, second and third new step,
-- prunes, live edges and the limit, as one table with a single theorem, computed.
-- Assumes nothing.
use Rattle.std.specs.Prelude.{Bool, true, List, [], ◌∷◌, ◌++◌, map, ◌≡◌, refl, ℕ}
use Rattle.store.specs.Model.{Model, blank, put_shape}
use Rattle.rules.specs.Refusals.{Got, ok, refused, ◌>>=◌, refusal_number}
use Rattle.rules.specs.Steps.{Step, insert, configure, prototype, put_counter, steps, limited}
use Rattle.rules.specs.Sound.{sound_model}
use Rattle.rules.specs.Calls.{Call, new_root, insert_key, release, sweep, after}
use Rattle.rules.specs.Transcript.{limits, shape, a, b, c}
use Rattle.rules.specs.Refused.{replies}
use Rattle.plan.specs.Plan.{room_at, gives, spend, plan, plan_limited}

-- ## A case

-- An image and a place; then steps, each with the number of the refusal of the steps up to it, 0 for none.
abbrev Case : Type 0
Case = Model × ℕ × List (Step × ℕ)

abbrev number : {A : Type 0} → Got A → ℕ
number (ok x) = 0
number (refused r) = refusal_number r

-- What the steps say and what the plan says; the same with the limit after them.
unfoldable said : Model → ℕ → List Step → List ℕ
unfolding replies plan plan_limited room_at gives spend
said m n ts =
    number (steps ts m n)
    ∷ number (plan m n ts)
    ∷ number (steps ts m n >>= limited)
    ∷ number (plan_limited m n ts)
    ∷ []

-- That of no step, of the first, of the first two, and so on.
abbrev said_each : Model → ℕ → (before : List Step) → List (Step × ℕ) → List (List ℕ)
said_each m n ts [] = said m n ts ∷ []
said_each m n ts (l ∷ ls) = said m n ts ∷ said_each m n (ts ++ l.0 ∷ []) ls

-- And that the image is sound.
unfoldable pub found : Case → List (List ℕ) × Bool
unfolding said
found (m, n, ls) = (said_each m n [] ls, sound_model m)

abbrev pub foreseen : Case → List (List ℕ) × Bool
foreseen (m, n, ls) = (map (λ r. r ∷ r ∷ r ∷ r ∷ []) (0 ∷ map (λ l. l.1) ls), true)

-- ## The images

abbrev d : ℕ
d = 4

abbrev e : ℕ
e = 5

abbrev f : ℕ
f = 6

-- Shapes 1 to 4: a root, then a, b and c inserted one after the other, with one table and three edges.
abbrev line : List Call
line = new_root ∷ insert_key 1 a 7 ∷ insert_key 2 b 7 ∷ insert_key 3 c 7 ∷ []

abbrev from : (S T K E : ℕ) → List Call → Model
from S T K E cs = after (blank (limits S T K E)) cs

-- A root with three dead edges; and its counter at 255.
abbrev cut : List Call
cut =
    new_root
    ∷ insert_key 1 a 7
    ∷ insert_key 1 b 7
    ∷ insert_key 1 c 7
    ∷ release 2
    ∷ release 3
    ∷ release 4
    ∷ sweep
    ∷ []

abbrev full : Model → Model
full m = put_counter m 1 0 255

-- The line without its last two shapes: a live edge, then a dead one.
abbrev half : List Call
half = line ++ release 3 ∷ release 4 ∷ sweep ∷ []

abbrev inserts : List (ℕ × ℕ) → List (Step × ℕ)
inserts ls = map (λ l. (insert l.0 7, l.1)) ls

-- ## The cases

abbrev keys : List Case
keys =
    (from 9 4 3 9 line, 4, inserts ((d, 7) ∷ []))
    ∷ (from 9 4 3 9 line, 3, inserts ((d, 0) ∷ (e, 7) ∷ []))
    ∷ (from 9 4 3 9 line, 2, inserts ((d, 0) ∷ (e, 0) ∷ (f, 7) ∷ []))
    ∷ (from 9 4 4 9 line, 2, inserts ((d, 0) ∷ (e, 0) ∷ (f, 0) ∷ []))
    ∷ []

abbrev shapes : List Case
shapes =
    (from 4 4 4 9 line, 1, inserts ((b, 8) ∷ []))
    ∷ (from 5 4 4 9 line, 1, inserts ((b, 0) ∷ (c, 8) ∷ []))
    ∷ (from 6 4 4 9 line, 1, inserts ((b, 0) ∷ (c, 0) ∷ (d, 8) ∷ []))
    ∷ (from 7 4 4 9 line, 1, inserts ((b, 0) ∷ (c, 0) ∷ (d, 0) ∷ []))
    ∷ []

-- The first insert copies where the table has more entries than its shape, and the later ones append; a shape
-- that has all of them appends at once. A configure copies the others too: an insert after it copies still.
abbrev tables : List Case
tables =
    (from 9 1 4 9 line, 1, inserts ((b, 9) ∷ []))
    ∷ (from 9 1 4 9 line, 1, (prototype 9, 0) ∷ inserts ((b, 9) ∷ []))
    ∷ (from 9 1 4 9 line, 1, (prototype 9, 0) ∷ (prototype 8, 0) ∷ inserts ((b, 9) ∷ []))
    ∷ (from 9 2 4 9 line, 1, (prototype 9, 0) ∷ (prototype 8, 0) ∷ inserts ((b, 0) ∷ (c, 0) ∷ (d, 0) ∷ []))
    ∷ (from 9 1 5 9 line, 4, (prototype 9, 0) ∷ inserts ((d, 0) ∷ (e, 0) ∷ []))
    ∷ (from 9 1 4 9 line, 4, (configure a 5, 9) ∷ [])
    ∷ (from 9 2 4 9 line, 4, (configure a 5, 0) ∷ (configure b 5, 9) ∷ [])
    ∷ (from 9 1 6 9 line, 4, inserts ((d, 0) ∷ (e, 0) ∷ []) ++ (configure a 5, 9) ∷ [])
    ∷ (from 9 2 4 9 line, 4, (configure a 5, 0) ∷ inserts ((d, 0) ∷ []))
    ∷ (from 9 2 4 9 line, 3, (configure a 5, 0) ∷ inserts ((d, 9) ∷ []))
    ∷ (from 9 3 4 9 line, 3, (configure a 5, 0) ∷ inserts ((d, 0) ∷ (e, 0) ∷ []))
    ∷ []

abbrev edges : List Case
edges =
    (from 9 4 4 3 line, 1, inserts ((b, 10) ∷ []))
    ∷ (from 9 4 4 4 line, 1, inserts ((b, 0) ∷ (c, 10) ∷ []))
    ∷ (from 9 4 4 5 line, 1, inserts ((b, 0) ∷ (c, 0) ∷ (d, 10) ∷ []))
    ∷ (from 9 4 4 6 line, 1, inserts ((b, 0) ∷ (c, 0) ∷ (d, 0) ∷ []))
    ∷ []

-- The lowest of one step; a higher one of an earlier step, though the next step would meet 7.
abbrev lowest : List Case
lowest =
    (from 4 1 3 3 line, 4, inserts ((d, 7) ∷ []))
    ∷ (from 4 1 3 3 line, 1, inserts ((b, 8) ∷ []))
    ∷ (from 5 1 3 3 line, 1, inserts ((b, 9) ∷ []))
    ∷ (from 5 2 3 3 line, 1, inserts ((b, 10) ∷ []))
    ∷ (from 5 2 3 4 line, 1, inserts ((b, 0) ∷ []))
    ∷ (from 5 2 3 4 line, 3, inserts ((d, 0) ∷ (e, 7) ∷ []))
    ∷ (from 4 2 3 4 line, 3, inserts ((d, 8) ∷ (e, 8) ∷ []))
    ∷ (from 5 1 3 4 line, 3, inserts ((d, 9) ∷ (e, 9) ∷ []))
    ∷ (from 5 2 3 3 line, 3, inserts ((d, 10) ∷ (e, 10) ∷ []))
    ∷ []

-- A step with a dead edge for it gives back all three; another gives back none, unless the counter stands at
-- 255. A prototype step gives back none of them, and the insert after it has a new parent.
abbrev prunes : List Case
prunes =
    (from 9 4 9 3 cut, 1, inserts ((b, 0) ∷ (d, 0) ∷ (e, 0) ∷ (f, 10) ∷ []))
    ∷ (from 9 4 9 3 cut, 1, inserts ((d, 10) ∷ []))
    ∷ (from 9 4 9 4 cut, 1, inserts ((d, 0) ∷ (b, 10) ∷ []))
    ∷ (full (from 9 4 9 3 cut), 1, inserts ((d, 0) ∷ (e, 0) ∷ (f, 0) ∷ (b, 10) ∷ []))
    ∷ (full (from 9 4 9 3 cut), 1, (prototype 9, 10) ∷ [])
    ∷ (from 9 4 9 4 cut, 1, (prototype 9, 0) ∷ inserts ((b, 10) ∷ []))
    ∷ []

-- All live, with nothing free, and then a new one; a live edge, then a dead one.
abbrev follows : List Case
follows =
    (from 4 1 3 3 line, 1, inserts ((a, 0) ∷ (b, 0) ∷ (c, 0) ∷ (d, 7) ∷ []))
    ∷ (from 4 2 3 3 half, 1, inserts ((a, 0) ∷ (b, 0) ∷ (c, 0) ∷ []))
    ∷ (from 4 1 3 3 half, 1, inserts ((a, 0) ∷ (b, 9) ∷ []))
    ∷ []

-- ## The limit

-- A root said to have so many transitions, so that the image is small, though not sound; and the number for
-- two steps with the limit after them.
abbrev late : (S T transitions : ℕ) → Model
late S T n = put_shape (from S T 9 9 (new_root ∷ [])) 1 (shape 1 1 0 0 n 0 0 1 0 0)

abbrev limit_cases : List (Model × ℕ)
limit_cases =
    (late 4 2 1022, 0)
    ∷ (late 3 2 1022, 8)
    ∷ (late 4 1 1022, 9)
    ∷ (late 3 1 1022, 8)
    ∷ (late 3 1 1021, 0)
    ∷ []

unfoldable pub limit_found : Model → List ℕ
unfolding said
limit_found m = said m 1 (insert a 7 ∷ insert b 7 ∷ [])

-- ## The theorem

pub plans_right :
    (let cases = keys ++ shapes ++ tables ++ edges ++ lowest ++ prunes ++ follows in
    map found cases ≡ map foreseen cases)
    × (map (λ x. limit_found x.0) limit_cases ≡ map (λ x. 0 ∷ 0 ∷ x.1 ∷ x.1 ∷ []) limit_cases)
unfolding found limit_found
plans_right = (refl, refl)
