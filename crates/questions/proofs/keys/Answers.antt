-- `questions::keys` meets its contract. Assumes nothing.
use Rattle.theorems.specs.Changes.{may_act}
use Rattle.property_table.specs.Readable.{readable}
use Rattle.holds.specs.Granted.{named}
use Rattle.questions.proofs.keys.Goals as goal

pub key_count-requires : goal.key_count-requires
key_count-requires c =
    let its = named c.held.ensures c.in_ok-s.was in
    let sound = c.requires.sound in
    let table = readable sound _ (may_act _ sound _ its.may).is_used its.read in
    rw c.of-own.ensures record { formed = c.requires.formed; there = table.there }

pub keys-requires : goal.keys-requires
keys-requires c =
    let its = named c.held.ensures c.in_ok-s.was in
    let sound = c.requires.sound in
    let table = readable sound _ (may_act _ sound _ its.may).is_used its.read in
    record {
      formed = c.requires.formed;
      there = rw c.of-own.ensures table.there;
      room = rw (← c.key_count.ensures) c.if-key_count-out.false;
    }
