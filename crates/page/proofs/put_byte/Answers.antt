-- `page::put_byte` meets its contract: a byte on the page is stored, one past its end is not, and the count stops at 2^64-1.
-- Assumes nothing.
use native.Mathlib.Omega.{arith}
use Rattle.page.proofs.Laws.Page.{put_on, put_past}
use Rattle.page.proofs.put_byte.Goals as goal

pub returns-then-at-out : goal.returns-then-at-out
returns-then-at-out c = put_on _ _ _ (omega arith)

pub returns : goal.returns
returns c = put_past _ _ _ _ c.if-at-out.false c.saturating_add.ensures
