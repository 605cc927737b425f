-- `ledger::enter` meets its contract: by what the answer is.
-- Assumes nothing.
use Rattle.ledger.specs.Ledger.{entered}
use Rattle.ledger.proofs.enter.Goals as goal

pub returns-in-Ok : goal.returns-in-Ok
unfolding entered
returns-in-Ok c = rw c.in-Ok.is (rw c.enter_line.ensures at c.enter_accepted.ensures)

pub returns-in-Err : goal.returns-in-Err
unfolding entered
returns-in-Err c = rw c.in-Err.is (rw c.enter_line.ensures at c.enter_refused.ensures)
