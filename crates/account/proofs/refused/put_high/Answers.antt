-- `account::refused::put_high` meets its contract.
-- Assumes nothing.
use Rattle.account.specs.Account.{high_byte}
use Rattle.account.proofs.refused.put_high.Goals as goal

pub returns : goal.returns
unfolding high_byte
returns c = rw c.column_of-column.ensures at c.put_numbered.ensures
