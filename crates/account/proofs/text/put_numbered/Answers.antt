-- `account::text::put_numbered` meets its contract.
-- Assumes nothing.
use Rattle.page.proofs.Laws.Page.{put_then}
use Rattle.account.specs.Account.{numbered}
use Rattle.account.proofs.text.put_numbered.Goals as goal

pub returns : goal.returns
unfolding numbered
returns c =
    put_then _ _ _ _ _ (put_then _ _ _ _ _ c.put_bytes-number.ensures
    c.put_unsigned-end.ensures)
    c.put_bytes.ensures
