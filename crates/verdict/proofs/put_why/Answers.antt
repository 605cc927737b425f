-- `verdict::put_why` meets its contract: by the number.
-- Assumes nothing.
use borrow.Author.Tests.{eq-eqb, ne_eqb}
use Rattle.verdict.specs.Verdict.{why}
use Rattle.verdict.proofs.put_why.Goals as goal

pub returns-then-number-eq10 : goal.returns-then-number-eq10
unfolding why
returns-then-number-eq10 c = rw (eq-eqb _ _ c.if-number-eq10.true) c.put_bytes.ensures

pub returns-then-number-eq11 : goal.returns-then-number-eq11
unfolding why
returns-then-number-eq11 c = rw (ne_eqb _ _ c.if-number-eq10.false, eq-eqb _ _ c.if-number-eq11.true) c.put_bytes-then-number-eq11.ensures

pub returns : goal.returns
unfolding why
returns c = rw (ne_eqb _ _ c.if-number-eq10.false, ne_eqb _ _ c.if-number-eq11.false) c.put_bytes-2.ensures
