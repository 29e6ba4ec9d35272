-- `rollback::yield_last` meets its contract: each way out has one clause of `yields`. Assumes nothing.
use mathlib.Core.Bool.{or-true}
use mathlib.Core.Path.{◌∙◌}
use borrow.Author.Tests.{eq-eqb, ne_eqb}
use Rattle.rollback.specs.StepsFrom.{any_from}
use Rattle.rollback.proofs.yield_last.Goals as goal

pub returns-then-s-eq-PROTOTYPE : goal.returns-then-s-eq-PROTOTYPE
returns-then-s-eq-PROTOTYPE c =
    record {
      inside = c.requires.start_in_bounds;
      steps = rw (eq-eqb _ _ c.if-s-eq-PROTOTYPE.true);
    }

pub returns-then-e-key : goal.returns-then-e-key
returns-then-e-key c =
    record {
      inside = c.requires.start_in_bounds;
      steps = rw (← c.last_entry-e.ensures, eq-eqb _ _ c.if-e-key.true, or-true);
    }

pub returns-then-is_yielded : goal.returns-then-is_yielded
returns-then-is_yielded c =
    let args = c.args in
    let last = c.last_entry-e in
    let told = c.is_yielded.ensures ∙ any_from last.result.key args.steps.now args.start in
    record {
      inside = c.requires.start_in_bounds;
      steps = rw (← last.ensures, ← told, c.if-is_yielded.true, or-true);
    }

pub returns : goal.returns
returns c =
    let args = c.args in
    let last = c.last_entry-e in
    let told = c.is_yielded.ensures ∙ any_from last.result.key args.steps.now args.start in
    let if1 = c.if-s-eq-PROTOTYPE in
    let if2 = c.if-e-key in
    let if3 = c.if-is_yielded in
    rw (
      ← last.ensures,
      ← told,
      ne_eqb _ _ if1.false,
      ne_eqb _ _ if2.false,
      if3.false,
    )
    c.push.ensures
