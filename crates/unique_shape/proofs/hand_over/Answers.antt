-- `unique_shape::hand_over` meets its contract. Assumes nothing.
use Rattle.unique_shape.specs.Replacing.{handed_over}
use Rattle.unique_shape.proofs.hand_over.Goals as goal

pub returns : goal.returns
returns c =
    rw (← c.entry_count-count.ensures)
    (handed_over _ _ _ _ c.get_shape-old.ensures c.empty_table.ensures
    c.put_unique.ensures c.put_unique-2.ensures)
