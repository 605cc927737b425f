-- `account::rows::put_named` meets its contract.
-- Assumes nothing.
use Rattle.page.proofs.Laws.Page.{put_then}
use Rattle.account.specs.Account.{named}
use Rattle.account.proofs.rows.put_named.Goals as goal

pub returns : goal.returns
unfolding named
returns c =
    put_then _ _ _ _ _ (put_then _ _ _ _ _ c.put_bytes-name.ensures
    c.put_name-end.ensures)
    c.put_bytes.ensures
