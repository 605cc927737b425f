-- `audit::feed::watch_part` meets its contract: nothing is held; or no LF ends the line that is; or one does, and the rest follows it (Laws.Turn).
-- Assumes nothing.
use Rattle.audit.proofs.Laws.Turn.{part_free, part_held, part-ended}
use Rattle.audit.proofs.feed.watch_part.Goals as goal

pub returns-then-held-eq0 : goal.returns-then-held-eq0
returns-then-held-eq0 c = part_free _ _ _ _ c.if-held-eq0.true c.watch_rest.ensures

pub returns-then-part-lf : goal.returns-then-part-lf
returns-then-part-lf c = part_held _ _ _ _ c.if-held-eq0.false c.absorb-absorbed.ensures c.if-part-lf.true

pub returns : goal.returns
returns c =
    part-ended _ _ _ _ c.if-held-eq0.false c.absorb-absorbed.ensures _ _ _ _ _ c.if-part-lf.false c.ended_size.ensures c.following.ensures c.see_held-w.ensures
    c.watch_rest-2.ensures
