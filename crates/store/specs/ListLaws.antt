-- Laws on tests over lists, for any test: what a test that passes says, and when it passes.
-- Assumes nothing.
use Rattle.std.specs.Prelude.{◌≡◌, refl, Bool, true, false, ◌&&◌, ◌||◌, not, List, [], ◌∷◌, ◌++◌, map, ◌⊎◌, ℕ, zero, suc, ◌+◌, ◌≤◌, eqb, length, get_or, set, take, replicate}
use Rattle.std.proofs.Common.{sym, ◌∙◌, ap, ap₂, true≢false, inl, inr, not-suc-le-zero, add-zero, add-suc, suc-add, one-add, arith, eqb-true, eq-eqb, ne_eqb, length-append}
use Rattle.std.proofs.Math.Bool.{or_assoc}
use Rattle.std.proofs.lemmas.Bool.{false≢true, eqb-false}
use Rattle.std.specs.Prelude.{if◌then◌else◌}
use Rattle.store.specs.Lists.{at, put, numbered, keep, every, any, last, all, agree, zeros}
use Rattle.store.specs.Layout.{flat}
use Rattle.store.specs.PlaceLaws.{at_tail}

-- ## Tests that pass

pub and_both : (a : Bool) {b : Bool} → (a && b) ≡ true → (a ≡ true) × (b ≡ true)
and_both true e = (refl, e)
and_both false e = absurd (false≢true e)

pub both-and : {a b : Bool} → a ≡ true → b ≡ true → (a && b) ≡ true
both-and e f = rw e f

-- A test that stands behind another.
pub or_then : (a : Bool) {b : Bool} → (a || b) ≡ true → a ≡ false → b ≡ true
or_then true e f = absurd (true≢false f)
or_then false e f = e

pub then_or : (a : Bool) {b : Bool} → (a ≡ false → b ≡ true) → (a || b) ≡ true
then_or true h = refl
then_or false h = h refl

pub not_then : (a : Bool) {b : Bool} → (not a || b) ≡ true → a ≡ true → b ≡ true
not_then true e f = e
not_then false e f = absurd (false≢true f)

pub then_not : (a : Bool) {b : Bool} → (a ≡ true → b ≡ true) → (not a || b) ≡ true
then_not true h = h refl
then_not false h = refl

-- Neither of two tests passes.
pub or-none : (a : Bool) {b : Bool} → (a || b) ≡ false → (a ≡ false) × (b ≡ false)
or-none true e = absurd (true≢false e)
or-none false e = (refl, e)

-- Each test of a list has passed.
abbrev pub Passed : List Bool → Type 0
Passed [] = Unit {0}
Passed (b ∷ bs) = (b ≡ true) × Passed bs

-- What each test of a list says, one after the other, and `tt` at the end.
infixr 5 ◌and◌
abbrev pub ◌and◌ : {A B : Type 0} → A → B → A × B
x and y = (x, y)

pub all-passed : (bs : List Bool) → all bs ≡ true → Passed bs
all-passed [] e = tt
all-passed (b ∷ bs) e = let p = and_both b e in (p.0, all-passed bs p.1)

pub passed-all : (bs : List Bool) → Passed bs → all bs ≡ true
passed-all [] p = refl
passed-all (b ∷ bs) p = rw p.0 (passed-all bs p.1)

-- ## One test of every record

module _ {A : Type 0} (test : A → Bool) where
  pub every-make : (xs : List A) (d : A) → ((n : ℕ) → 1 ≤ n → n ≤ length xs → test (at xs n d) ≡ true)
      → every test xs ≡ true
  every-make [] d h = refl
  every-make (x ∷ xs) d h =
      rw (h 1 (omega arith) (omega arith))
      (every-make xs d (λ n low high. rw (← (at_tail x xs n d low)) (h (suc n) (omega arith) (omega arith))))

  every_set : (xs : List A) (k : ℕ) (y : A) → every test xs ≡ true → test y ≡ true
      → every test (set xs k y) ≡ true
  every_set [] k y e h = refl
  every_set (x ∷ xs) zero y e h = rw h (and_both (test x) e).1
  every_set (x ∷ xs) (suc k) y e h = let p = and_both (test x) e in rw p.0 (every_set xs k y p.1 h)

  pub every-put : (xs : List A) (n : ℕ) (y : A) → every test xs ≡ true → test y ≡ true
      → every test (put xs n y) ≡ true
  every-put xs zero y e h = e
  every-put xs (suc k) y e h = every_set xs k y e h

  pub every_take : (n : ℕ) (xs : List A) → every test xs ≡ true → every test (take n xs) ≡ true
  every_take zero xs e = refl
  every_take (suc n) [] e = refl
  every_take (suc n) (x ∷ xs) e = let p = and_both (test x) e in rw p.0 (every_take n xs p.1)

  pub every_append : (xs ys : List A) → every test xs ≡ true → every test ys ≡ true
      → every test (xs ++ ys) ≡ true
  every_append [] ys e h = h
  every_append (x ∷ xs) ys e h = let p = and_both (test x) e in rw p.0 (every_append xs ys p.1 h)

  pub every-replicate : (n : ℕ) (x : A) → test x ≡ true → every test (replicate n x) ≡ true
  every-replicate zero x h = refl
  every-replicate (suc n) x h = rw h (every-replicate n x h)

  pub every_map : {B : Type 0} (f : B → A) (xs : List B) → every test (map f xs) ≡ every (λ x. test (f x)) xs
  every_map f [] = refl
  every_map f (x ∷ xs) = ap (λ (b : Bool). test (f x) && b) (every_map f xs)

  pub length-keep : (xs : List A) → length (keep test xs) ≤ length xs
  length-keep [] = omega arith
  length-keep (x ∷ xs) = go (test x) (length-keep xs)
    where
      go : (b : Bool) → length (keep test xs) ≤ length xs
          → length (if b then x ∷ keep test xs else keep test xs) ≤ length (x ∷ xs)
      go true l = omega arith
      go false l = omega arith

  pub keep_append : (xs ys : List A) → keep test (xs ++ ys) ≡ keep test xs ++ keep test ys
  keep_append [] ys = refl
  keep_append (x ∷ xs) ys = go (test x) (keep_append xs ys)
    where
      go : (b : Bool) → keep test (xs ++ ys) ≡ keep test xs ++ keep test ys
          → (if b then x ∷ keep test (xs ++ ys) else keep test (xs ++ ys))
          ≡ (if b then x ∷ keep test xs else keep test xs) ++ keep test ys
      go true again = ap (λ (zs : List A). x ∷ zs) again
      go false again = again

  pub keep-map : {B : Type 0} (f : B → A) (xs : List B)
      → keep test (map f xs) ≡ map f (keep (λ x. test (f x)) xs)
  keep-map f [] = refl
  keep-map {B} f (x ∷ xs) = go (test (f x)) (keep-map f xs)
    where
      go : (b : Bool) → keep test (map f xs) ≡ map f (keep (λ x. test (f x)) xs)
          → (if b then f x ∷ keep test (map f xs) else keep test (map f xs))
          ≡ map f (if b then x ∷ keep (λ x. test (f x)) xs else keep (λ x. test (f x)) xs)
      go true again = ap (λ (zs : List A). f x ∷ zs) again
      go false again = again

-- A test that x passes at every place passes all of them.
pub every_same : {A : Type 0} (test : ℕ × A → Bool) (x : A) → ((place : ℕ) → test (place, x) ≡ true)
    → (start n : ℕ) → every test (numbered start (replicate n x)) ≡ true
every_same test x h start zero = refl
every_same test x h start (suc n) = rw (h start) (every_same test x h (suc start) n)

-- Where one test passes, a test that follows from it passes too.
pub every_then : {A : Type 0} {test other : A → Bool} → ((x : A) → test x ≡ true → other x ≡ true)
    → (xs : List A) → every test xs ≡ true → every other xs ≡ true
every_then h [] e = refl
every_then {test = test} h (x ∷ xs) e =
    let p = and_both (test x) e in
    rw (h x p.0) (every_then h xs p.1)

pub any_append : {A : Type 0} (test : A → Bool) (xs ys : List A)
    → any test (xs ++ ys) ≡ (any test xs || any test ys)
any_append test [] ys = refl
any_append test (x ∷ xs) ys =
    ap (λ (b : Bool). test x || b) (any_append test xs ys)
    ∙ sym (or_assoc (test x) (any test xs) (any test ys))

pub any-flat : (test : ℕ → Bool) (rs : List (List ℕ)) → any test (flat rs) ≡ any (any test) rs
unfolding flat
any-flat test [] = refl
any-flat test (r ∷ rs) = any_append test r (flat rs) ∙ ap (λ (b : Bool). any test r || b) (any-flat test rs)

-- The test that all pass.
abbrev pub always : {A : Type 0} → A → Bool
always x = true

pub every-always : {A : Type 0} (xs : List A) → every always xs ≡ true
every-always [] = refl
every-always (x ∷ xs) = every-always xs

-- ## At every place, place 0 and those past the end included: d is what stands there

module _ {A : Type 0} (d : A) where
  -- A test that d passes passes at every place.
  pub every-place : (test : A → Bool) (xs : List A) → test d ≡ true → every test xs ≡ true
      → (n : ℕ) → test (at xs n d) ≡ true
  every-place test xs out e zero = out
  every-place test [] out e (suc n) = out
  every-place test (x ∷ xs) out e (suc zero) = (and_both (test x) e).0
  every-place test (x ∷ xs) out e (suc (suc n)) = every-place test xs out (and_both (test x) e).1 (suc n)

  -- The same of a test that sees the place too,
  every-from : (test : ℕ × A → Bool) → ((n : ℕ) → test (n, d) ≡ true)
      → (start : ℕ) (xs : List A) → every test (numbered start xs) ≡ true
      → (k : ℕ) → test (start + k, get_or xs k d) ≡ true
  every-from test out start [] e k = out (start + k)
  every-from test out start (x ∷ xs) e zero = rw add-zero (and_both (test (start, x)) e).0
  every-from test out start (x ∷ xs) e (suc k) =
      let rest = every-from test out (suc start) xs (and_both (test (start, x)) e).1 k in
      rw (add-suc start k, ← suc-add start k) rest

  pub every-numbered : (test : ℕ × A → Bool) → ((n : ℕ) → test (n, d) ≡ true)
      → (xs : List A) → every test (numbered 1 xs) ≡ true
      → (n : ℕ) → test (n, at xs n d) ≡ true
  every-numbered test out xs e zero = out 0
  every-numbered test out xs e (suc k) = rw one-add at (every-from test out 1 xs e k)

  -- and back.
  from-every : (test : ℕ × A → Bool) (start : ℕ) (xs : List A)
      → ((k : ℕ) → test (start + k, get_or xs k d) ≡ true) → every test (numbered start xs) ≡ true
  from-every test start [] h = refl
  from-every test start (x ∷ xs) h =
      let rest = from-every test (suc start) xs (λ k. rw (suc-add start k, ← add-suc start k) (h (suc k))) in
      rw (rw add-zero at (h 0)) rest

  pub numbered-every : (test : ℕ × A → Bool) (xs : List A) → ((n : ℕ) → test (n, at xs n d) ≡ true)
      → every test (numbered 1 xs) ≡ true
  numbered-every test xs h = from-every test 1 xs (λ k. rw one-add (h (suc k)))

-- ## Where a test passes that d fails

-- A test has passed or failed.
abbrev pub Decided : Bool → Type 0
Decided b = (b ≡ true) ⊎ (b ≡ false)

pub either : (b : Bool) → Decided b
either true = inl refl
either false = inr refl

pub not-both : {A : Type 0} {b : Bool} → b ≡ true → b ≡ false → A
not-both e f = absurd (true≢false (sym e ∙ f))

module _ {A : Type 0} (test : A → Bool) (d : A) (out : test d ≡ false) where
  -- Some record passes exactly where a place does.
  pub any_place : (xs : List A) → any test xs ≡ true → (n : ℕ) × (test (at xs n d) ≡ true)
  any_place [] e = absurd (false≢true e)
  any_place (x ∷ xs) e = go (test x) refl (any_place xs)
    where
      go : (b : Bool) → test x ≡ b → (any test xs ≡ true → (n : ℕ) × (test (at xs n d) ≡ true))
          → (n : ℕ) × (test (at (x ∷ xs) n d) ≡ true)
      go true p again = (1, p)
      go false p again = later (again (rw p at e))
        where
          later : (n : ℕ) × (test (at xs n d) ≡ true) → (n : ℕ) × (test (at (x ∷ xs) n d) ≡ true)
          later (zero, q) = not-both q out
          later (suc n, q) = (suc (suc n), q)

  pub place-any : (xs : List A) (n : ℕ) → test (at xs n d) ≡ true → any test xs ≡ true
  place-any xs zero e = not-both e out
  place-any [] (suc n) e = not-both e out
  place-any (x ∷ xs) (suc zero) e = rw e
  place-any (x ∷ xs) (suc (suc n)) e = go (test x) (place-any xs (suc n) e)
    where
      go : (b : Bool) → any test xs ≡ true → (b || any test xs) ≡ true
      go true p = refl
      go false p = p

  -- Those that pass are kept: one or more exactly where some record passes,
  pub keep-any : (xs : List A) → 1 ≤ length (keep test xs) → any test xs ≡ true
  keep-any [] l = absurd (not-suc-le-zero l)
  keep-any (x ∷ xs) l = go (test x) (keep-any xs) l
    where
      go : (b : Bool) → (1 ≤ length (keep test xs) → any test xs ≡ true)
          → 1 ≤ length (if b then x ∷ keep test xs else keep test xs) → (b || any test xs) ≡ true
      go true again l = refl
      go false again l = again l

  pub any-keep : (xs : List A) → any test xs ≡ true → 1 ≤ length (keep test xs)
  any-keep [] e = absurd (false≢true e)
  any-keep (x ∷ xs) e = go (test x) (any-keep xs) e
    where
      go : (b : Bool) → (any test xs ≡ true → 1 ≤ length (keep test xs))
          → (b || any test xs) ≡ true → 1 ≤ length (if b then x ∷ keep test xs else keep test xs)
      go true again e = omega arith
      go false again e = again e

  none_kept : (xs : List A) → ((n : ℕ) → test (at xs n d) ≡ true → n ≡ 0) → keep test xs ≡ []
  none_kept xs h = go (keep test xs) refl
    where
      go : (ys : List A) → keep test xs ≡ ys → ys ≡ []
      go [] e = refl
      go (y ∷ ys) e = here (any_place xs (keep-any xs (rw e (omega arith))))
        where
          here : (n : ℕ) × (test (at xs n d) ≡ true) → (y ∷ ys) ≡ []
          here (n, p) = not-both (rw (h n p) at p) out

  -- The test passes at this place and at no other.
  pub record OnlyAt (xs : List A) (n : ℕ) : Type 0 where
    pub passes : test (at xs n d) ≡ true
    pub only : (k : ℕ) → test (at xs k d) ≡ true → k ≡ n

  -- Exactly one is kept where it passes at one place only.
  pub only_kept : (xs : List A) (n : ℕ) → OnlyAt xs n → keep test xs ≡ at xs n d ∷ []
  only_kept xs zero o = not-both o.passes out
  only_kept [] (suc n) o = not-both o.passes out
  only_kept (x ∷ xs) (suc zero) o = rw o.passes (ap (λ (ys : List A). x ∷ ys) (none_kept xs none))
    where
      none : (k : ℕ) → test (at xs k d) ≡ true → k ≡ 0
      none zero p = refl
      none (suc k) p = omega (arith, o.only (suc (suc k)) p)
  only_kept (x ∷ xs) (suc (suc n)) o = go (test x) refl (only_kept xs (suc n) its)
    where
      its : OnlyAt xs (suc n)
      its = record { passes = o.passes; only = others }
        where
          others : (k : ℕ) → test (at xs k d) ≡ true → k ≡ suc n
          others zero p = not-both p out
          others (suc k) p = omega (arith, o.only (suc (suc k)) p)

      go : (b : Bool) → test x ≡ b → keep test xs ≡ at xs (suc n) d ∷ []
          → (if b then x ∷ keep test xs else keep test xs) ≡ at xs (suc n) d ∷ []
      go true p again = absurd (omega (arith, o.only 1 p))
      go false p again = again

  pub kept-only : (xs : List A) (y : A) → keep test xs ≡ y ∷ []
      → (n : ℕ) × (at xs n d ≡ y) × OnlyAt xs n
  kept-only [] y e = let z : ◌≡◌ {A = ℕ} 0 1 = cc in absurd (omega arith)
  kept-only (x ∷ xs) y e = go (test x) refl e (kept-only xs y)
    where
      go : (b : Bool) → test x ≡ b → (if b then x ∷ keep test xs else keep test xs) ≡ y ∷ []
          → (keep test xs ≡ y ∷ [] → (n : ℕ) × (at xs n d ≡ y) × OnlyAt xs n)
          → (n : ℕ) × (at (x ∷ xs) n d ≡ y) × OnlyAt (x ∷ xs) n
      go true p q again =
          let none : keep test xs ≡ [] = cc in
          let its : x ≡ y = cc in
          (1, its, record { passes = p; only = others none })
        where
          others : keep test xs ≡ [] → (k : ℕ) → test (at (x ∷ xs) k d) ≡ true → k ≡ 1
          others none zero r = not-both r out
          others none (suc zero) r = refl
          others none (suc (suc k)) r =
              absurd (omega (arith, any-keep xs (place-any xs (suc k) r), ap length none))
      go false p q again = later (again q)
        where
          later : (n : ℕ) × (at xs n d ≡ y) × OnlyAt xs n
              → (n : ℕ) × (at (x ∷ xs) n d ≡ y) × OnlyAt (x ∷ xs) n
          later (zero, its, o) = not-both o.passes out
          later (suc n, its, o) = (suc (suc n), its, record { passes = o.passes; only = others })
            where
              others : (k : ℕ) → test (at (x ∷ xs) k d) ≡ true → k ≡ suc (suc n)
              others zero r = not-both r out
              others (suc zero) r = not-both r p
              others (suc (suc k)) r = ap suc (o.only (suc k) r)

-- ## Numbers

pub agree→≡ : (xs ys : List ℕ) → agree xs ys ≡ true → xs ≡ ys
agree→≡ [] [] e = refl
agree→≡ [] (y ∷ ys) e = absurd (false≢true e)
agree→≡ (x ∷ xs) [] e = absurd (false≢true e)
agree→≡ (x ∷ xs) (y ∷ ys) e =
    let p = and_both (eqb x y) e in ap₂ ◌∷◌ (eqb-true x y p.0) (agree→≡ xs ys p.1)

pub agree_self : (xs : List ℕ) → agree xs xs ≡ true
agree_self [] = refl
agree_self (x ∷ xs) = rw (eq-eqb x x refl) (agree_self xs)

-- The way back is `every-replicate`.
pub zeros→replicate : (ns : List ℕ) → zeros ns ≡ true → ns ≡ replicate (length ns) 0
zeros→replicate [] e = refl
zeros→replicate (n ∷ ns) e =
    let p = and_both (eqb 0 n) e in ap₂ ◌∷◌ (sym (eqb-true 0 n p.0)) (zeros→replicate ns p.1)

pub eqb_sym : (m n : ℕ) → eqb m n ≡ eqb n m
eqb_sym m n = go (eqb m n) refl
  where
    go : (b : Bool) → eqb m n ≡ b → b ≡ eqb n m
    go true e = sym (eq-eqb n m (sym (eqb-true m n e)))
    go false e = sym (ne_eqb n m (λ q. eqb-false m n e (sym q)))

-- ## Maps

-- What g takes back of each record, it takes back of a list.
pub map_back : {A B : Type 0} (f : A → B) (g : B → A) → ((x : A) → g (f x) ≡ x)
    → (xs : List A) → map g (map f xs) ≡ xs
map_back f g h [] = refl
map_back f g h (x ∷ xs) = ap₂ ◌∷◌ (h x) (map_back f g h xs)

-- ## The last of a list

pub every-last : {A : Type 0} (test : A → Bool) (xs : List A) (d : A) → every test xs ≡ true → test d ≡ true
    → test (last xs d) ≡ true
every-last test [] d e out = out
every-last test (x ∷ xs) d e out = let p = and_both (test x) e in every-last test xs x p.1 p.0

pub last-map : {A B : Type 0} (f : A → B) (xs : List A) (d : A) → last (map f xs) (f d) ≡ f (last xs d)
last-map f [] d = refl
last-map f (x ∷ xs) d = last-map f xs x

pub last-append : {A : Type 0} (xs : List A) (x d : A) → last (xs ++ x ∷ []) d ≡ x
last-append [] x d = refl
last-append (y ∷ xs) x d = last-append xs x y

-- A list that is not empty ends with its last.
pub front_last : {A : Type 0} (x : A) (xs : List A) → (front : List A) × (x ∷ xs ≡ front ++ last xs x ∷ [])
front_last x [] = ([], refl)
front_last {A} x (y ∷ xs) = let (front, e) = front_last y xs in (x ∷ front, ap (λ (ys : List A). x ∷ ys) e)

-- Lists that end with one more are the same in both parts.
pub same_ends : {A : Type 0} (xs ys : List A) (a b : A) → xs ++ a ∷ [] ≡ ys ++ b ∷ [] → (xs ≡ ys) × (a ≡ b)
same_ends [] [] a b h = (refl, cc)
same_ends [] (y ∷ ys) a b h = absurd (omega (arith, ap length h, length-append ys (b ∷ [])))
same_ends (x ∷ xs) [] a b h = absurd (omega (arith, ap length h, length-append xs (a ∷ [])))
same_ends (x ∷ xs) (y ∷ ys) a b h =
    let rest : xs ++ a ∷ [] ≡ ys ++ b ∷ [] = cc in
    let first : x ≡ y = cc in
    let (others, end) = same_ends xs ys a b rest in
    (ap₂ ◌∷◌ first others, end)
