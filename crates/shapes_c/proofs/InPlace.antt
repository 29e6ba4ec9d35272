-- C passes by place what a contract calls by name. So the contracts whose numbers could change places are said here by
-- places: the image stands first, and after it the first number, the second and so on, as C passes them.
-- Assumes nothing.
use mathlib.Core.Path.{◌≡◌, refl}
use seplogic.Ra.Ura.{Ura}
use base.Logic.{SProp}
use prog.Memory.{Memory}
use prog.Routine.{Routine}
use types.Logic.{Logic}
use contract.Lifetimes.{Lfts}
use contract.Monad.{Fun}
use contract.Notation.{connectives}
use denote.Triple.Entry.{Args}
use denote.Triple.Spec.{exits}
use Rattle.replies.specs.declared.ReplyNumbers.{ReplyNumbers}
use Rattle.rules.specs.Calls.{insert_key, change_key, remove_key, change_prototype, ask, lookup, keys_into, call_on}
use Rattle.rules.specs.Calls.{format}
use Rattle.replies.specs.Told.{Tells, limits_are, listed_in}
use Rattle.shapes_c.specs.contracts.shapes_format as c-format
use Rattle.shapes_c.specs.contracts.shapes_insert as c_insert
use Rattle.shapes_c.specs.contracts.shapes_change as c-change
use Rattle.shapes_c.specs.contracts.shapes_remove as c_remove
use Rattle.shapes_c.specs.contracts.shapes_set_prototype as c_set_prototype
use Rattle.shapes_c.specs.contracts.shapes_lookup as c_lookup
use Rattle.shapes_c.specs.contracts.shapes_keys as c-keys

abbrev first : {X A R : Type 0} → X × (A × R) → A
first args = args.1.0

abbrev second : {X A B R : Type 0} → X × (A × (B × R)) → B
second args = args.1.1.0

abbrev third : {X A B C R : Type 0} → X × (A × (B × (C × R))) → C
third args = args.1.1.1.0

abbrev fourth : {X A B C D R : Type 0} → X × (A × (B × (C × (D × R)))) → D
fourth args = args.1.1.1.1.0

module _ {M : Type 1} {𝓤 : Ura M} (𝓛 : Logic 𝓤) (mem : Memory → SProp 𝓤) (run : Routine → Fun 𝓤) where
  open connectives 𝓤 use {⌜◌⌝, ◌∗◌}

  module _ (κs : Lfts 1) where
    pub format_in_place : (args : Args c-format.signature κs) (n : ReplyNumbers)
        → (c-format.spec 𝓛 mem run κs args).ensures tt n
        ≡ exits 𝓛 c-format.signature (c-format.ended).kept κs args
        (λ end. ⌜ Tells end.0.now n
        (format (limits_are (first args) (second args) (third args) (fourth args)) args.0.now) ⌝)
    format_in_place args n = refl

    pub insert_in_place : (args : Args c_insert.signature κs) (n : ReplyNumbers)
        → (c_insert.spec 𝓛 mem run κs args).ensures tt n
        ≡ exits 𝓛 c_insert.signature (c_insert.ended).kept κs args
        (λ end. ⌜ Tells end.0.now n
        (call_on args.0.now (insert_key (first args) (second args) (third args))) ⌝)
    insert_in_place args n = refl

    pub change_in_place : (args : Args c-change.signature κs) (n : ReplyNumbers)
        → (c-change.spec 𝓛 mem run κs args).ensures tt n
        ≡ exits 𝓛 c-change.signature (c-change.ended).kept κs args
        (λ end. ⌜ Tells end.0.now n
        (call_on args.0.now (change_key (first args) (second args) (third args))) ⌝)
    change_in_place args n = refl

    pub remove_in_place : (args : Args c_remove.signature κs) (n : ReplyNumbers)
        → (c_remove.spec 𝓛 mem run κs args).ensures tt n
        ≡ exits 𝓛 c_remove.signature (c_remove.ended).kept κs args
        (λ end. ⌜ Tells end.0.now n (call_on args.0.now (remove_key (first args) (second args))) ⌝)
    remove_in_place args n = refl

    pub set_prototype_in_place : (args : Args c_set_prototype.signature κs) (n : ReplyNumbers)
        → (c_set_prototype.spec 𝓛 mem run κs args).ensures tt n
        ≡ exits 𝓛 c_set_prototype.signature (c_set_prototype.ended).kept κs args
        (λ end. ⌜ Tells end.0.now n
        (call_on args.0.now (change_prototype (first args) (second args))) ⌝)
    set_prototype_in_place args n = refl

    pub lookup_in_place : (args : Args c_lookup.signature κs) (n : ReplyNumbers)
        → (c_lookup.spec 𝓛 mem run κs args).ensures tt n
        ≡ exits 𝓛 c_lookup.signature (c_lookup.ended).kept κs args
        (λ end. ⌜ Tells args.0.now n (call_on args.0.now (ask (first args) (lookup (second args)))) ⌝)
    lookup_in_place args n = refl

  -- Here the list's slice is the second.
  pub keys_in_place : (κs : Lfts 2) (args : Args c-keys.signature κs) (n : ReplyNumbers)
      → (c-keys.spec 𝓛 mem run κs args).ensures tt n
      ≡ exits 𝓛 c-keys.signature (c-keys.ended).kept κs args
      (λ end. let said = call_on args.0.now (ask (first args) (keys_into (second args).now)) in
      ⌜ Tells args.0.now n said ⌝ ∗ ⌜ (second end).now ≡ listed_in (second args).now said ⌝)
  keys_in_place κs args n = refl
