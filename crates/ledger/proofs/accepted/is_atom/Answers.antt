-- `ledger::accepted::is_atom` meets its contract: by the two tests.
-- Assumes nothing.
use borrow.Author.Tests.{lt-leb, le-leb}
use Rattle.ledger.proofs.accepted.is_atom.Goals as goal

pub returns-then-number-lt3 : goal.returns-then-number-lt3
returns-then-number-lt3 c = simp (lt-leb _ _ c.if-number-lt3.true)

pub returns : goal.returns
returns c = simp (le-leb _ _ c.if-number-lt3.false)
