-- `sweep::passes::sweep_shapes` meets its contract. Assumes nothing.
use Prim.Native.Nat.{◌+◌}
use native.Mathlib.Omega.{arith}
use Rattle.std.specs.Prelude.{if◌then◌else◌}
use Rattle.store.specs.declared.Shape.{Shape}
use Rattle.store.specs.Model.{no_shape, shape_at, put_shape}
use Rattle.store.specs.Layout.{parse}
use Rattle.sweep.specs.Marks.{marked}
use Rattle.store.specs.Passes.{of_shapes, pass_start, pass_next}
use Rattle.sweep.specs.Passes.{kept_long, kept_at}
use Rattle.sweep.proofs.passes.sweep_shapes.Goals as goal

pub loop-done-init : goal.loop-done-init
loop-done-init c =
    let pre = c.requires in
    let args = c.args in
    pass_start of_shapes _ pre
    (kept_long (marked args.marks.now) no_shape (parse args.image.now).shapes)

pub loop-done-preserved : goal.loop-done-preserved
unfolding shape_at put_shape
loop-done-preserved c =
    let loop = c.loop-done in
    let args = c.args in
    let shape-count = c.shape_count-count in
    let sweep-shape = c.sweep_shape in
    pass_next of_shapes loop.invariant
    (λ (s : Shape). if marked args.marks.now (loop.done + 1) then s else no_shape)
    (omega (arith, shape-count.ensures))
    (kept_at (marked args.marks.now) no_shape (parse args.image.now).shapes loop.done)
    sweep-shape.ensures
