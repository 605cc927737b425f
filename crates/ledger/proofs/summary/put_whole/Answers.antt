-- `ledger::summary::put_whole` meets its contract: by the one test.
-- Assumes nothing.
use borrow.Author.Tests.{eq-eqb, ne_eqb}
use Rattle.ledger.specs.Summary.{whole}
use Rattle.ledger.proofs.summary.put_whole.Goals as goal

pub returns-then-records-eq0 : goal.returns-then-records-eq0
unfolding whole
returns-then-records-eq0 c = rw (eq-eqb _ _ c.if-records-eq0.true) c.put_bytes.ensures

pub returns : goal.returns
unfolding whole
returns c = rw (ne_eqb _ _ c.if-records-eq0.false) c.put_bytes-2.ensures
