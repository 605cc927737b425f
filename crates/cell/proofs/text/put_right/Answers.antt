-- `cell::text::put_right` meets its contract: what is wanting to its columns goes before the text.
-- Assumes nothing.
use Rattle.page.proofs.Laws.Page.{put_then}
use Rattle.cell.specs.Text.{right}
use Rattle.cell.proofs.Laws.Put.{right-full}
use Rattle.cell.proofs.text.put_right.Goals as goal

pub returns-then-bytes-width : goal.returns-then-bytes-width
unfolding right
returns-then-bytes-width c = put_then _ _ _ _ _ c.put_blanks-next.ensures c.put_bytes.ensures

pub returns : goal.returns
returns c = rw (right-full c.args.width c.args.bytes.now c.if-bytes-width.false) c.put_bytes-2.ensures
