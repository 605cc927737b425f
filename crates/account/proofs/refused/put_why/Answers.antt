-- `account::refused::put_why` meets its contract.
-- Assumes nothing.
use borrow.Author.Tests.{eq-eqb, ne_eqb}
use Rattle.account.specs.Account.{why}
use Rattle.account.proofs.refused.put_why.Goals as goal

pub returns-then-number-eq2 : goal.returns-then-number-eq2
unfolding why
returns-then-number-eq2 c = rw (eq-eqb _ 2 c.if-number-eq2.true) c.put_long.ensures

pub returns-then-number-eq3 : goal.returns-then-number-eq3
unfolding why
returns-then-number-eq3 c = rw (ne_eqb _ 2 c.if-number-eq2.false, eq-eqb _ 3 c.if-number-eq3.true) c.put_high.ensures

pub returns-then-number-eq6 : goal.returns-then-number-eq6
unfolding why
returns-then-number-eq6 c = rw (ne_eqb _ 2 c.if-number-eq2.false, ne_eqb _ 3 c.if-number-eq3.false, eq-eqb _ 6 c.if-number-eq6.true) c.put_short.ensures

pub returns : goal.returns
unfolding why
returns c = rw (ne_eqb _ 2 c.if-number-eq2.false, ne_eqb _ 3 c.if-number-eq3.false, ne_eqb _ 6 c.if-number-eq6.false) c.put_other.ensures
