-- `ledger::words::add` meets its contract: by whether the sum is too large.
-- Assumes nothing.
use native.Mathlib.Omega.{arith}
use Rattle.ledger.proofs.Laws.Turns.{added_full, added_more}
use Rattle.ledger.proofs.words.add.Goals as goal

pub returns-then-more-old : goal.returns-then-more-old
returns-then-more-old c = added_full _ _ _ c.if-more-old.true (omega arith)

pub returns : goal.returns
returns c = added_more _ _ _ (omega arith)
