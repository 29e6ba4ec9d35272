-- `stepping::answer_command` meets its contract. Assumes nothing.
use Rattle.stepping.specs.Answering.{call_answered, bad_answered}
use Rattle.stepping.proofs.answer_command.Goals as goal

pub returns-in-Root : goal.returns-in-Root
returns-in-Root c = rw c.in-Root.is (call_answered c.requires _ _ c.root.ensures c.shape_numbers.ensures)

pub returns-in-Unique : goal.returns-in-Unique
returns-in-Unique c =
    rw c.in-Unique.is (call_answered c.requires _ _ c.unique.ensures c.shape_numbers-in-Unique.ensures)

pub returns-in-Insert : goal.returns-in-Insert
returns-in-Insert c =
    rw c.in-Insert.is (call_answered c.requires _ _ c.insert_property_transition.ensures c.shape_numbers-in-Insert.ensures)

pub returns-in-Change : goal.returns-in-Change
returns-in-Change c =
    rw c.in-Change.is (call_answered c.requires _ _ c.change_attributes_transition.ensures c.shape_numbers-in-Change.ensures)

pub returns-in-Remove : goal.returns-in-Remove
returns-in-Remove c =
    rw c.in-Remove.is (call_answered c.requires _ _ c.remove_property_transition.ensures c.shape_numbers-in-Remove.ensures)

pub returns-in-Prototype : goal.returns-in-Prototype
returns-in-Prototype c =
    rw c.in-Prototype.is (call_answered c.requires _ _ c.change_prototype_transition.ensures c.shape_numbers-in-Prototype.ensures)

pub returns-in-Release : goal.returns-in-Release
returns-in-Release c = rw c.in-Release.is (call_answered c.requires _ _ c.release.ensures c.done_numbers.ensures)

pub returns-in-Sweep : goal.returns-in-Sweep
returns-in-Sweep c = rw c.in-Sweep.is (call_answered c.requires _ _ c.sweep.ensures c.sweep_numbers.ensures)

pub returns-in-BadLine : goal.returns-in-BadLine
returns-in-BadLine c = rw c.in-BadLine.is (bad_answered c.requires c.bad_line.ensures)
