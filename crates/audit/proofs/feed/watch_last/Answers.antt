-- `audit::feed::watch_last` meets its contract: by whether a byte is held.
-- Assumes nothing.
use Rattle.audit.proofs.Laws.Turn.{last_empty, last_some}
use Rattle.audit.proofs.feed.watch_last.Goals as goal

pub returns-then-held-eq0 : goal.returns-then-held-eq0
returns-then-held-eq0 c = last_empty _ _ c.if-held-eq0.true

pub returns : goal.returns
returns c = last_some _ _ _ c.if-held-eq0.false c.see_held.ensures
