-- `plan::budget::spend` meets its contract. Assumes nothing.
use Rattle.plan.specs.Budget.{no_keys, no_shape_lem, no_table, no_edge_lem, enough, step_left}
use Rattle.plan.proofs.budget.spend.Goals as goal

pub returns-then-added-room : goal.returns-then-added-room
returns-then-added-room c = no_keys _ _ c.added.ensures c.if-added-room.true

pub returns-then-room-eq0 : goal.returns-then-room-eq0
returns-then-room-eq0 c =
    let added = c.added in
    no_shape_lem _ _ added.ensures c.if-added-room.false c.if-room-eq0.true

pub returns-then-copies-room : goal.returns-then-copies-room
returns-then-copies-room c =
    let added = c.added in
    let if1 = c.if-added-room in
    let if2 = c.if-room-eq0 in
    no_table _ _ added.ensures if1.false if2.false c.copies.ensures c.if-copies-room.true

pub returns-then-room-eq0-2 : goal.returns-then-room-eq0-2
returns-then-room-eq0-2 c =
    let added = c.added in
    let if1 = c.if-added-room in
    let if2 = c.if-room-eq0 in
    let copies = c.copies in
    no_edge_lem _ _ added.ensures if1.false if2.false copies.ensures c.if-copies-room.false c.if-room-eq0-2.true

pub spent-requires : goal.spent-requires
spent-requires c =
    let added = c.added in
    let if1 = c.if-added-room in
    let if2 = c.if-room-eq0 in
    let copies = c.copies in
    enough _ _ added.ensures if1.false if2.false copies.ensures c.if-copies-room.false c.if-room-eq0-2.false

pub returns : goal.returns
returns c =
    let added = c.added in
    let if1 = c.if-added-room in
    let if2 = c.if-room-eq0 in
    let copies = c.copies in
    let if3 = c.if-copies-room in
    step_left _ _ added.ensures if1.false if2.false copies.ensures if3.false c.if-room-eq0-2.false
    c.spent.ensures
