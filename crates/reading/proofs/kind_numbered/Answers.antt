-- `reading::kind_numbered` meets its contract: the list is that of the names' kinds.
-- Assumes nothing.
use native.Mathlib.Omega.{arith}
use Rattle.reading.proofs.Laws.Read.{kind-within, kind-beyond}
use Rattle.reading.proofs.kind_numbered.Goals as goal

pub returns-then-number-lt28 : goal.returns-then-number-lt28
returns-then-number-lt28 c = kind-within c.args.number _ (omega arith)

pub returns : goal.returns
returns c = kind-beyond c.args.number (omega arith)
