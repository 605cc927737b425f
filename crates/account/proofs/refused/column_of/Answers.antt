-- `account::refused::column_of` meets its contract.
-- Assumes nothing.
use borrow.Author.Rules.{rules}
use Rattle.account.specs.Account.{column_of}
use Rattle.account.proofs.refused.column_of.Goals as goal

pub returns : goal.returns
unfolding column_of
returns c = search rules
