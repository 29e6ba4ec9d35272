-- `drawing::words::write_attributes` meets its contract. Assumes nothing.
use Rattle.drawing.specs.Parts.{letter_told, five_letters}
use Rattle.drawing.proofs.words.write_attributes.Goals as goal

pub returns : goal.returns
returns c =
    let told = five_letters c.args.attributes
    (letter_told 119 c.is_writable.ensures c.letter_if.ensures)
    (letter_told 101 c.is_enumerable.ensures c.letter_if-2.ensures)
    (letter_told 99 c.is_configurable.ensures c.letter_if-3.ensures)
    (letter_told 103 c.has_get.ensures c.letter_if-4.ensures)
    (letter_told 115 c.has_set.ensures c.letter_if-5.ensures) in
    rw told c.write_word.ensures
