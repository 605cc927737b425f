-- `account::head::put_part` meets its contract.
-- Assumes nothing.
use Rattle.account.specs.Account.{word_at}
use Rattle.account.proofs.head.put_part.Goals as goal

pub returns : goal.returns
unfolding word_at
returns c = rw (c.trim.ensures, c.reached.ensures, c.new-columns.ensures) at c.put_word.ensures
