-- `replaying::replay` meets its contract: each turn takes one more block. Assumes nothing.
use Rattle.std.proofs.Common.{rules, arith, ◌≡◌, ◌≤◌, length, take, length-take-le}
use Rattle.stepping.specs.Input.{state_in, taken}
use Rattle.replaying.specs.Replayed.{nothing_read, block_read, answers_printable}
use Rattle.replaying.proofs.replay.Goals as goal
use Rattle.replaying.proofs.replay.Goals.{else-loop-test, then-loop-test+in_ok-n+then-n-eq0}

pub loop-init : goal.loop-init
loop-init g c = (nothing_read _ _ c.requires.ready (search rules), search rules)

pub returns-in_err-n-clause-stopped : goal.returns-in_err-n-clause-stopped
returns-in_err-n-clause-stopped g c = (c.loop.begun, c.loop.invariant.0.replayed)

pub answer_block-end-requires-clause-ready : goal.answer_block-end-requires-clause-ready
answer_block-end-requires-clause-ready g c = c.loop.invariant.0.replayed.ready

pub answer_block-end-requires-clause-begun_bound :
    goal.answer_block-end-requires-clause-begun_bound
answer_block-end-requires-clause-begun_bound g c = omega (arith, c.loop.invariant.0.kept.few)

pub print_answers-requires : goal.print_answers-requires
print_answers-requires g c =
    let answer = c.answer_block-end.ensures in
    let block = take c.in_ok-n.n c.read.new.buf in
    let before = state_in c.loop.image c.loop.line c.loop.begun in
    let after = taken before block in
    answers_printable {s₁ = after} before block answer.comes answer.written_in_bounds c.args.answered c.asked_for.ensures

pub returns-in_err-print_answers-clause-stopped : goal.returns-in_err-print_answers-clause-stopped
returns-in_err-print_answers-clause-stopped g c =
    let block = take c.in_ok-n.n c.read.new.buf in
    let count : length block ≡ c.in_ok-n.n = length-take-le _ _ c.in_ok-n.ensures.bound.0 in
    let some : 1 ≤ length block = omega arith in
    let few : length block ≤ 4096 = omega (arith, c.in_ok-n.ensures.bound.0, c.read.auto.buf, c.loop.invariant.1) in
    let next = block_read _ _ block c.loop.invariant.0 some few c.answer_block-end.ensures.comes in
    (c.answer_block-end.result.begun, next.replayed)

pub loop-preserved : goal.loop-preserved
loop-preserved g c =
    let block = take c.in_ok-n.n c.read.new.buf in
    let count : length block ≡ c.in_ok-n.n = length-take-le _ _ c.in_ok-n.ensures.bound.0 in
    let some : 1 ≤ length block = omega arith in
    let few : length block ≤ 4096 = omega (arith, c.in_ok-n.ensures.bound.0, c.read.auto.buf, c.loop.invariant.1) in
    let next = block_read _ _ block c.loop.invariant.0 some few c.answer_block-end.ensures.comes in
    (next, search rules)

pub returns-clause-ok : goal.returns-clause-ok
returns-clause-ok g c = c.loop.invariant.0.replayed

pub returns-clause-stopped : goal.returns-clause-stopped
returns-clause-stopped g c = (c.loop.begun, c.loop.invariant.0.replayed)
