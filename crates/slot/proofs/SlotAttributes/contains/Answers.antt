-- `slot::SlotAttributes::contains` meets its contract, by the law of a mask of one bit. Assumes nothing.
use Rattle.slot.proofs.Bits.{mask_present}
use Rattle.slot.proofs.SlotAttributes.contains.Goals as goal

pub returns : goal.returns
returns c = mask_present 8 _ _ c.requires
