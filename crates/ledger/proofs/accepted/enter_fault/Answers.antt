-- `ledger::accepted::enter_fault` meets its contract: the calls are the steps of its definition.
-- Assumes nothing.
use Rattle.ledger.specs.Ledger.{with_fault}
use Rattle.ledger.proofs.accepted.enter_fault.Goals as goal

pub returns : goal.returns
unfolding with_fault
returns c = simp (c.add.ensures, c.enter_first.ensures)
