-- `repair::rows::put_done` meets its contract.
-- Assumes nothing.
use borrow.Author.Tests.{eq-eqb, ne_eqb}
use Rattle.repair.specs.Rows.{done_text}
use Rattle.repair.proofs.rows.put_done.Goals as goal

pub returns-then-what-eq1 : goal.returns-then-what-eq1
unfolding done_text
returns-then-what-eq1 c = rw (eq-eqb _ 1 c.if-what-eq1.true) c.put_bytes.ensures

pub returns : goal.returns
unfolding done_text
returns c = rw (ne_eqb _ 1 c.if-what-eq1.false) c.put_bytes-2.ensures
