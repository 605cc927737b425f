-- `account::put_faulty` meets its contract: its parts stand one after the other.
-- Assumes nothing.
use Rattle.page.proofs.Laws.Page.{put_then}
use Rattle.account.specs.Account.{unread_rows}
use Rattle.account.proofs.put_faulty.Goals as goal

pub returns : goal.returns
unfolding unread_rows
returns c =
    let shown = rw c.is_cut-cut.ensures at c.put_unread-shown.ensures in
    put_then _ _ _ _ _ (put_then _ _ _ _ _ (put_then _ _ _ _ _ c.put_head-why.ensures
    shown)
    c.put_line-rows.ensures)
    c.put_rows.ensures
