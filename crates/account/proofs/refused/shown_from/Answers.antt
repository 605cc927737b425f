-- `account::refused::shown_from` meets its contract.
-- Assumes nothing.
use borrow.Author.Tests.{lt-ltb, le-ltb}
use Rattle.account.specs.Account.{shown_from}
use Rattle.account.proofs.refused.shown_from.Goals as goal

pub returns-then-place-lt100 : goal.returns-then-place-lt100
unfolding shown_from
returns-then-place-lt100 c = simp (lt-ltb _ 100 c.if-place-lt100.true)

pub returns : goal.returns
unfolding shown_from
returns c = simp (le-ltb _ 100 c.if-place-lt100.false)
