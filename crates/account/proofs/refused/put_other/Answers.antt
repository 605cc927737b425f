-- `account::refused::put_other` meets its contract.
-- Assumes nothing.
use borrow.Author.Tests.{eq-eqb, ne_eqb}
use Rattle.account.specs.Account.{otherwise}
use Rattle.account.proofs.refused.put_other.Goals as goal

pub returns-then-number-eq4 : goal.returns-then-number-eq4
unfolding otherwise
returns-then-number-eq4 c = rw (eq-eqb _ 4 c.if-number-eq4.true) c.put_bytes.ensures

pub returns-then-number-eq5 : goal.returns-then-number-eq5
unfolding otherwise
returns-then-number-eq5 c = rw (ne_eqb _ 4 c.if-number-eq4.false, eq-eqb _ 5 c.if-number-eq5.true) c.put_bytes-then-number-eq5.ensures

pub returns : goal.returns
unfolding otherwise
returns c = rw (ne_eqb _ 4 c.if-number-eq4.false, ne_eqb _ 5 c.if-number-eq5.false) c.put_bytes-2.ensures
