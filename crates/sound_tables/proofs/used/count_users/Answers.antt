-- `sound_tables::used::count_users` meets its contract. Assumes nothing.
use Rattle.sound_tables.specs.Used.{shape_countable, users-next}
use Rattle.sound_tables.proofs.used.count_users.Goals as goal

pub count_user-requires : goal.count_user-requires
count_user-requires c =
    let pre = c.requires in
    let loop = c.loop-done in
    let shape-count = c.shape_count-done-end in
    let loop-test = c.loop-done-test in
    let get-shape = c.get_shape in
    shape_countable pre.formed pre.image_value loop.invariant shape-count.ensures loop-test.true
    get-shape.ensures

pub loop-done-preserved : goal.loop-done-preserved
loop-done-preserved c =
    let pre = c.requires in
    let loop = c.loop-done in
    let shape-count = c.shape_count-done-end in
    let loop-test = c.loop-done-test in
    let get-shape = c.get_shape in
    let count_user = c.count_user in
    users-next pre.formed pre.image_value loop.invariant shape-count.ensures loop-test.true
    get-shape.ensures count_user.ensures
