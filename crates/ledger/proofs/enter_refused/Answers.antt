-- `ledger::enter_refused` meets its contract: the calls are the steps of its definition.
-- Assumes nothing.
use Rattle.ledger.specs.Ledger.{with_refused}
use Rattle.ledger.proofs.enter_refused.Goals as goal

pub returns : goal.returns
unfolding with_refused
returns c = simp (c.add.ensures, c.one-cut.ensures, c.is_cut.ensures)
