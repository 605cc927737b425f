-- `parts::put::put_held` meets its contract: by whether the line is over 1,024 bytes.
-- Assumes nothing.
use Rattle.parts.proofs.Laws.Put.{held-over, held-line}
use Rattle.parts.proofs.put.put_held.Goals as goal

pub returns-then-size-gt-MOST_KEPT : goal.returns-then-size-gt-MOST_KEPT
returns-then-size-gt-MOST_KEPT c = held-over _ _ _ _ _ _ c.if-size-gt-MOST_KEPT.true c.put_over.ensures

pub returns : goal.returns
returns c = held-line _ _ _ _ _ _ c.if-size-gt-MOST_KEPT.false c.put_front.ensures
