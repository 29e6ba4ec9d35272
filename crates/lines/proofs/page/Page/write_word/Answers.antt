-- `lines::page::Page::write_word` meets its contract. Assumes nothing.
use Rattle.std.proofs.Common.{ap, refl, length, ◌+◌, ◌-◌, ◌≤◌, ◌≡◌}
use native.Mathlib.Omega.{arith}
use borrow.Rule.Slice.PartMut.{put_mid}
use Rattle.lines.specs.Pages.{adds_word}
use Rattle.lines.proofs.page.Page.write_word.Goals as goal

pub returns : goal.returns
returns c =
    let word = c.args.word.now in
    let page = c.args.self.now in
    let many = page.end + length word - page.end in
    let within : page.end + length word ≤ length page.bytes.now =
    grind (arith, c.requires, c.is_empty.ensures, c.if-is_empty.false) in
    let all : many ≡ length word = omega arith in
    adds_word word many all within refl (ap (put_mid page.end many page.bytes.now) c.copy_from_slice.ensures.after) refl
