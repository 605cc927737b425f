-- `account::put_unread` meets its contract.
-- Assumes nothing.
use borrow.Author.Tests.{eq-eqb, ne_eqb}
use Rattle.account.specs.Account.{unread}
use Rattle.account.proofs.put_unread.Goals as goal

pub returns-then-cut : goal.returns-then-cut
unfolding unread
returns-then-cut c = rw c.if-cut.true c.put_numbered.ensures

pub returns-then-count-eq1 : goal.returns-then-count-eq1
unfolding unread
returns-then-count-eq1 c = rw (c.if-cut.false, eq-eqb _ 1 c.if-count-eq1.true) c.put_bytes.ensures

pub returns : goal.returns
unfolding unread
returns c = rw (c.if-cut.false, ne_eqb _ 1 c.if-count-eq1.false) c.put_numbered-2.ensures
