-- `account::text::put_line` meets its contract.
-- Assumes nothing.
use Rattle.page.proofs.Laws.Page.{put_then}
use Rattle.account.specs.Account.{shown_line}
use Rattle.account.proofs.text.put_line.Goals as goal

pub returns : goal.returns
unfolding shown_line
returns c =
    let text = rw c.front.ensures at c.put_marked-end.ensures in
    put_then _ _ _ _ _ (put_then _ _ _ _ _ c.put_bytes-start.ensures text)
    c.put_end.ensures
