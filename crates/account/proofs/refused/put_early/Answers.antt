-- `account::refused::put_early` meets its contract.
-- Assumes nothing.
use Rattle.page.proofs.Laws.Page.{put_then}
use Rattle.account.specs.Account.{too_early}
use Rattle.account.proofs.refused.put_early.Goals as goal

pub returns : goal.returns
unfolding too_early
returns c =
    put_then _ _ _ _ _ (put_then _ _ _ _ _ c.put_numbered-plural.ensures
    c.put_plural-end.ensures)
    c.put_bytes.ensures
