-- `account::refused::put_refused` meets its contract.
-- Assumes nothing.
use Rattle.page.proofs.Laws.Page.{put_then}
use Rattle.account.specs.Account.{refused_rows}
use Rattle.account.proofs.refused.put_refused.Goals as goal

pub returns : goal.returns
unfolding refused_rows
returns c =
    put_then _ _ _ _ _ (put_then _ _ _ _ _ c.put_numbered-why.ensures
    c.put_why-part.ensures)
    c.put_around.ensures
