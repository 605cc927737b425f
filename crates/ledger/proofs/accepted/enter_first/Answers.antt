-- `ledger::accepted::enter_first` meets its contract: by whether a field of the group wasn't read before.
-- Assumes nothing.
use borrow.Author.Tests.{eq-eqb, ne_eqb}
use Rattle.ledger.specs.Ledger.{with_first}
use Rattle.ledger.proofs.accepted.enter_first.Goals as goal

pub returns-then-ledger-group-ne0 : goal.returns-then-ledger-group-ne0
unfolding with_first
returns-then-ledger-group-ne0 c = simp (ne_eqb _ _ c.if-ledger-group-ne0.true)

pub returns : goal.returns
unfolding with_first
returns c = simp (eq-eqb _ _ c.if-ledger-group-ne0.false)
