-- `cell::text::put_fixed` meets its contract: a minus goes before the decimal.
-- Assumes nothing.
use Rattle.page.proofs.Laws.Page.{put_then}
use Rattle.cell.specs.Text.{fixed}
use Rattle.cell.proofs.text.put_fixed.Goals as goal

pub returns-then-rounded : goal.returns-then-rounded
unfolding fixed
returns-then-rounded c = rw c.if-rounded.true (put_then _ _ _ _ _ c.put_byte-next.ensures c.put_pointed.ensures)

pub returns : goal.returns
unfolding fixed
returns c = rw c.if-rounded.false c.put_pointed-2.ensures
