-- `ledger::words::raise` meets its contract: by the one test.
-- Assumes nothing.
use Rattle.ledger.specs.Ledger.{raised}
use Rattle.ledger.proofs.words.raise.Goals as goal

pub returns-then-so : goal.returns-then-so
unfolding raised
returns-then-so c = simp c.if-so.true

pub returns : goal.returns
unfolding raised
returns c = simp c.if-so.false
