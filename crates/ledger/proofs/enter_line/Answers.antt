-- `ledger::enter_line` meets its contract: the calls are the steps of its definition.
-- Assumes nothing.
use Rattle.ledger.specs.Ledger.{with_line}
use Rattle.ledger.proofs.enter_line.Goals as goal

pub returns : goal.returns
unfolding with_line
returns c = simp (c.raise.ensures, c.add.ensures, c.has_cr-cr.ensures)
