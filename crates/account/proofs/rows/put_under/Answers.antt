-- `account::rows::put_under` meets its contract.
-- Assumes nothing.
use Rattle.page.proofs.Laws.Page.{put_then}
use Rattle.account.specs.Account.{under}
use Rattle.account.proofs.rows.put_under.Goals as goal

pub returns : goal.returns
unfolding under
returns c =
    let carets = rw c.carets.ensures at c.put_many.ensures in
    put_then _ _ _ _ _ c.put_many-first.ensures carets
