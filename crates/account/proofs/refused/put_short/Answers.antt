-- `account::refused::put_short` meets its contract.
-- Assumes nothing.
use Rattle.page.proofs.Laws.Page.{put_then}
use Rattle.account.specs.Account.{too_short}
use Rattle.account.proofs.refused.put_short.Goals as goal

pub returns : goal.returns
unfolding too_short
returns c =
    put_then _ _ _ _ _ (put_then _ _ _ _ _ c.put_bytes-column.ensures
    c.put_unsigned-end.ensures)
    c.put_early.ensures
