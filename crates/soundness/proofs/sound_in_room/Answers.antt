-- `soundness::sound_in_room` meets its contract. Assumes nothing.
use Rattle.soundness.specs.Parts.{test_failed, test_passed, sound-parts}
use Rattle.std.proofs.Common.{ap}
use Rattle.std.proofs.Common.{not}
use Rattle.soundness.proofs.sound_in_room.Goals as goal

pub returns-then-not-fields_are_sound : goal.returns-then-not-fields_are_sound
returns-then-not-fields_are_sound c =
    let fields-are-sound = c.fields_are_sound in
    let if1 = c.if-not-fields_are_sound in
    rw (sound-parts, test_failed fields-are-sound.result fields-are-sound.ensures (ap not if1.true))

pub returns : goal.returns
returns c =
    let fields-are-sound = c.fields_are_sound in
    let if1 = c.if-not-fields_are_sound in
    let links-are-sound = c.links_are_sound in
    rw (sound-parts, test_passed fields-are-sound.result fields-are-sound.ensures (ap not if1.false))
    links-are-sound.ensures
