-- `verdict::put_same` meets its contract: by the one test.
-- Assumes nothing.
use borrow.Author.Tests.{eq-eqb, ne_eqb}
use Rattle.verdict.specs.Verdict.{same_or_not}
use Rattle.verdict.proofs.put_same.Goals as goal

pub returns-then-counted-said : goal.returns-then-counted-said
unfolding same_or_not
returns-then-counted-said c = rw (eq-eqb _ _ c.if-counted-said.true) c.put_bytes.ensures

pub returns : goal.returns
unfolding same_or_not
returns c = rw (ne_eqb _ _ c.if-counted-said.false) c.put_bytes-2.ensures
