-- `parts::feed_held` meets its contract: what is held at the LF, or at the end of the part (Laws.Turn).
-- Assumes nothing.
use Rattle.parts.proofs.Laws.Turn.{closed_all, closed-ended}
use Rattle.parts.proofs.feed_held.Goals as goal

pub returns-then-part-lf : goal.returns-then-part-lf
returns-then-part-lf c = closed_all _ _ _ _ _ _ c.absorb-absorbed.ensures c.if-part-lf.true

pub returns : goal.returns
returns c =
    closed-ended _ _ _ _ _ _ c.absorb-absorbed.ensures _ _ _ _ _ c.if-part-lf.false c.ended_size.ensures c.following.ensures c.none.ensures
    c.put_held-n.ensures
