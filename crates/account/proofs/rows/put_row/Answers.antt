-- `account::rows::put_row` meets its contract.
-- Assumes nothing.
use Rattle.page.proofs.Laws.Page.{put_then}
use Rattle.account.specs.Account.{fault_row}
use Rattle.account.proofs.rows.put_row.Goals as goal

pub returns : goal.returns
unfolding fault_row
returns c = put_then _ _ _ _ _ c.put_under-said.ensures c.put_said.ensures
