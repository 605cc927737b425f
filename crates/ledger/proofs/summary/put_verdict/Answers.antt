-- `ledger::summary::put_verdict` meets its contract: by the two counts.
-- Assumes nothing.
use borrow.Author.Tests.{eq-eqb, ne_eqb}
use Rattle.ledger.specs.Summary.{verdict}
use Rattle.ledger.proofs.summary.put_verdict.Goals as goal

pub returns-then-faulty-ne0 : goal.returns-then-faulty-ne0
unfolding verdict
returns-then-faulty-ne0 c = rw (ne_eqb _ _ c.if-faulty-ne0.true) c.put_unread.ensures

pub returns-then-refused-ne0 : goal.returns-then-refused-ne0
unfolding verdict
returns-then-refused-ne0 c = rw (eq-eqb _ _ c.if-faulty-ne0.false, ne_eqb _ _ c.if-refused-ne0.true) c.put_unread-then-refused-ne0.ensures

pub returns : goal.returns
unfolding verdict
returns c = rw (eq-eqb _ _ c.if-faulty-ne0.false, eq-eqb _ _ c.if-refused-ne0.false) c.put_whole.ensures
