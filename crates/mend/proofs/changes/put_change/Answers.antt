-- `mend::changes::put_change` meets its contract.
-- Assumes nothing.
use Rattle.mend.proofs.Laws.Steps.{change-none, change-held, change_past}
use Rattle.mend.proofs.changes.put_change.Goals as goal

pub returns-then-n-eq0 : goal.returns-then-n-eq0
returns-then-n-eq0 c = change-none _ _ _ _ _ c.if-n-eq0.true

pub returns-then-count-changes : goal.returns-then-count-changes
returns-then-count-changes c = change-held _ _ _ _ _ c.if-n-eq0.false

pub returns : goal.returns
returns c = change_past _ _ _ _ _ c.if-n-eq0.false c.if-count-changes.false
