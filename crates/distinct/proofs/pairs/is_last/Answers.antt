-- `distinct::pairs::is_last` meets its contract. Assumes nothing.
use mathlib.Core.Path.{refl, ◌∙◌}
use borrow.Author.Tests.{eq-eqb}
use Rattle.store.specs.Scans.{stopped, ended}
use Rattle.distinct.specs.Pairs.{none_after_lem}
use Rattle.distinct.proofs.pairs.is_last.Goals as goal

pub returns-then-code-codes : goal.returns-then-code-codes
returns-then-code-codes c =
    let loop = c.loop-done in
    let loop-test = c.loop-done-test in
    let if1 = c.if-code-codes in
    stopped loop.invariant refl loop-test.true refl (eq-eqb _ _ if1.true) ∙ none_after_lem _ _

pub returns : goal.returns
returns c =
    let loop = c.loop-done in
    let loop-test = c.loop-done-test in
    ended loop.invariant refl loop-test.false ∙ none_after_lem _ _
