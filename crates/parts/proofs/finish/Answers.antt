-- `parts::finish` meets its contract: the same report as of a line that an LF ends, but for the CR.
-- Assumes nothing.
use Rattle.parts.proofs.Laws.Turn.{last_none, last_empty, last_some}
use Rattle.parts.proofs.finish.Goals as goal

pub returns-then-out-lt-LONGEST : goal.returns-then-out-lt-LONGEST
returns-then-out-lt-LONGEST c = last_none _ _ c.if-out-lt-LONGEST.true

pub returns-then-held-eq0 : goal.returns-then-held-eq0
returns-then-held-eq0 c = last_empty _ _ c.if-out-lt-LONGEST.false c.if-held-eq0.true

pub returns : goal.returns
returns c = last_some _ _ _ _ c.if-out-lt-LONGEST.false c.if-held-eq0.false c.put_held.ensures
