-- `account::rows::put_said` meets its contract.
-- Assumes nothing.
use Rattle.page.proofs.Laws.Page.{put_then}
use Rattle.account.specs.Account.{said}
use Rattle.account.proofs.rows.put_said.Goals as goal

pub returns : goal.returns
unfolding said
returns c =
    put_then _ _ _ _ _ (put_then _ _ _ _ _ c.put_named-default.ensures
    c.put_default-end.ensures)
    c.put_bytes.ensures
