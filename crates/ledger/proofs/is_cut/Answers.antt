-- `ledger::is_cut` meets its contract: by the two numbers.
-- Assumes nothing.
use borrow.Author.Tests.{eq-eqb, ne_eqb}
use Rattle.ledger.proofs.is_cut.Goals as goal

pub returns-then-number-eq4 : goal.returns-then-number-eq4
returns-then-number-eq4 c = simp (eq-eqb _ _ c.if-number-eq4.true)

pub returns : goal.returns
returns c = simp (ne_eqb _ _ c.if-number-eq4.false)
