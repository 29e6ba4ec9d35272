-- `questions::lookup` meets its contract. Assumes nothing.
use mathlib.Core.Path.{◌∙◌, sym}
use Rattle.holds.specs.Granted.{named}
use Rattle.questions.specs.Asked.{lookup_finds, lookup_finds_nothing}
use Rattle.questions.proofs.lookup.Goals as goal

pub returns-in_default : goal.returns-in_default
returns-in_default c =
    let good = sym c.good_key.ensures ∙ c.if-not-good_key.false in
    let its = named c.held.ensures c.in_ok-held.was in
    lookup_finds_nothing c.requires.formed its _ good (sym c.find.ensures ∙ c.in_default.is)

pub returns : goal.returns
returns c =
    let good = sym c.good_key.ensures ∙ c.if-not-good_key.false in
    let its = named c.held.ensures c.in_ok-held.was in
    lookup_finds c.requires.formed its _ good (sym c.find.ensures ∙ c.in-Some.is)
