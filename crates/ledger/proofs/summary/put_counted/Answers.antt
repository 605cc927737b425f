-- `ledger::summary::put_counted` meets its contract: by whether it is none, one or more.
-- Assumes nothing.
use borrow.Author.Tests.{eq-eqb, ne_eqb}
use Rattle.page.proofs.Laws.Page.{put_then}
use Rattle.ledger.specs.Summary.{counted}
use Rattle.ledger.proofs.summary.put_counted.Goals as goal

pub returns-then-n-eq0 : goal.returns-then-n-eq0
unfolding counted
returns-then-n-eq0 c = rw (eq-eqb _ _ c.if-n-eq0.true) c.put_bytes.ensures

pub returns-then-n-eq1 : goal.returns-then-n-eq1
unfolding counted
returns-then-n-eq1 c = rw (ne_eqb _ _ c.if-n-eq0.false, eq-eqb _ _ c.if-n-eq1.true) c.put_bytes-then-n-eq1.ensures

pub returns : goal.returns
unfolding counted
returns c =
    rw (ne_eqb _ _ c.if-n-eq0.false, ne_eqb _ _ c.if-n-eq1.false) (put_then _ _ _ _ _ c.put_unsigned-word.ensures
    c.put_bytes-2.ensures)
