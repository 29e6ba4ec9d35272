-- `lines::page::Page::write_reply` meets its contract. Assumes nothing.
use Rattle.lines.specs.Pages.{four_added}
use Rattle.lines.proofs.page.Page.write_reply.Goals as goal

pub returns : goal.returns
returns c =
    four_added _ _ _ _ c.write_ended.ensures c.write_ended-2.ensures c.write_ended-3.ensures c.write_ended-4.ensures
