-- Where a key stands among entries: what a scan for it answers, and what the answer says.
-- Assumes nothing.
use Rattle.std.specs.Prelude.{Bool, true, false, List, [], ◌∷◌, ◌≢◌, ◌≡◌, refl, ℕ, suc, ◌+◌, ◌<◌, length, get_or, take, None, Option, Some}
use Rattle.std.proofs.lemmas.Bool.{false≢true}
use Rattle.std.proofs.Common.{inl, inr, sym, ◌∙◌, ap, arith, eqb-true}
use Rattle.std.proofs.Math.Option.{none, some}
use Rattle.std.specs.Prelude.{if◌then◌else◌}
use Rattle.slot.specs.declared.KeyPosition.{KeyPosition}
use Rattle.store.specs.Model.{no_entry}
use Rattle.store.specs.ListLaws.{Decided, either, or-none}
use Rattle.store.specs.Scans.{Scan, scan_of, Scanning}
use Rattle.store.specs.declared.Entry.{Entry}
use Rattle.rules.specs.Shapes.{is_key, has, attributes_in}
use Rattle.rules.specs.Sweep.{found}

-- "a position counts keys": those before the first entry with that key; all of them, where none has it.
abbrev pub keys_before : (key : ℕ) → List Entry → ℕ
keys_before k [] = 0
keys_before k (e ∷ es) = if is_key k e then 0 else suc (keys_before k es)

-- The position of a key, if one of the entries has it.
abbrev pub position_of : (key : ℕ) → List Entry → Option KeyPosition
position_of k es = if has k es then Some (record { 0 = keys_before k es }) else None

-- ## A scan of the first n

pub one_more : (i : ℕ) (b : Bool) (n : ℕ) → i + (if b then 0 else suc n) ≡ (if b then i else suc i + n)
one_more i true n = omega arith
one_more i false n = omega arith

abbrev pub key_scan : (key : ℕ) → List Entry → Scan ℕ
key_scan key =
    scan_of no_entry (λ i es. i + keys_before key es) (λ i e es. is_key key e) (λ i e. i)
    (λ i e es. one_more i (is_key key e) (keys_before key es))

-- The scan, with i of them looked at.
pub record Seeking (key : ℕ) (es : List Entry) (n i : ℕ) : Type 0 where
  pub scan : Scanning (key_scan key (take n es)) i (keys_before key (take n es))

-- ## What the count says

-- Position i is that of the first entry with the key.
pub record Stands (k : ℕ) (es : List Entry) (i : ℕ) : Type 0 where
  pub inside : i < length es
  pub key : (get_or es i no_entry).key ≡ k
  pub answer : found k es ≡ some (get_or es i no_entry)
  pub held : has k es ≡ true
  pub attributes : attributes_in k es ≡ (get_or es i no_entry).attributes

pub record Absent (k : ℕ) (es : List Entry) : Type 0 where
  pub answer : found k es ≡ none
  pub held : has k es ≡ false

stands : (k : ℕ) (es : List Entry) → has k es ≡ true → Stands k es (keys_before k es)
stands k [] h = absurd (false≢true h)
stands k (e ∷ es) h = go (either (is_key k e)) (stands k es)
  where
    go : Decided (is_key k e) → (has k es ≡ true → Stands k es (keys_before k es))
        → Stands k (e ∷ es) (keys_before k (e ∷ es))
    go (inl q) rest =
        rw q record {
          inside = omega arith;
          key = eqb-true e.key k q;
          answer = rw q;
          held = rw q;
          attributes = rw q;
        }
    go (inr q) rest =
        let later = rest (rw q at h) in
        let l = later.inside in
        rw q record {
          inside = omega arith;
          key = later.key;
          answer = rw q later.answer;
          held = rw q later.held;
          attributes = rw q later.attributes;
        }

absent : (k : ℕ) (es : List Entry) → has k es ≡ false → (keys_before k es ≡ length es) × Absent k es
absent k [] h = (refl, record { answer = refl; held = refl })
absent k (e ∷ es) h =
    let (other, rest) = or-none (is_key k e) h in
    let (all, later) = absent k es rest in
    rw other (ap suc all, record { answer = rw other later.answer; held = rw other later.held })

-- ## What the answer says

module _ (k : ℕ) (es : List Entry) {p : KeyPosition} (its : p.0 ≡ keys_before k es) {n : ℕ}
    (all : n ≡ length es) where
  pub held-nowhere : p.0 ≡ n → None ≡ position_of k es
  held-nowhere end = go (either (has k es))
    where
      go : Decided (has k es) → None ≡ position_of k es
      go (inl h) = absurd (let l = (stands k es h).inside in omega arith)
      go (inr h) = rw h

  pub held_somewhere : p.0 ≢ n → Some p ≡ position_of k es
  held_somewhere before = go (either (has k es))
    where
      go : Decided (has k es) → Some p ≡ position_of k es
      go (inl h) = rw (h, ← its)
      go (inr h) = absurd (before (its ∙ (absent k es h).0 ∙ sym all))

module _ (k : ℕ) (es : List Entry) where
  pub stands_at : {p : KeyPosition} → position_of k es ≡ Some p → Stands k es p.0
  stands_at {p} e = go (either (has k es))
    where
      go : Decided (has k es) → Stands k es p.0
      go (inl h) =
          let its : Some (record { 0 = keys_before k es }) ≡ Some p = rw h at e in
          let same : record { 0 = keys_before k es } ≡ p = cc in
          rw (← same) (stands k es h)
      go (inr h) =
          let its : None ≡ Some p = rw h at e in
          absurd (let z : ◌≡◌ {A = ℕ} 0 1 = cc in omega arith)

  pub stands_nowhere : position_of k es ≡ None → Absent k es
  stands_nowhere e = go (either (has k es))
    where
      go : Decided (has k es) → Absent k es
      go (inl h) =
          let its : Some (record { 0 = keys_before k es }) ≡ None = rw h at e in
          absurd (let z : ◌≡◌ {A = ℕ} 0 1 = cc in omega arith)
      go (inr h) = (absent k es h).1
