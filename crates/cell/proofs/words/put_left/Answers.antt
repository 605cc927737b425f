-- `cell::words::put_left` meets its contract: what is wanting to its columns goes behind the text.
-- Assumes nothing.
use Rattle.page.proofs.Laws.Page.{put_then}
use Rattle.cell.specs.Words.{left}
use Rattle.cell.proofs.Laws.Words.{left-full}
use Rattle.cell.proofs.words.put_left.Goals as goal

pub returns-then-bytes-width : goal.returns-then-bytes-width
unfolding left
returns-then-bytes-width c = put_then _ _ _ _ _ c.put_bytes-next.ensures c.put_blanks.ensures

pub returns : goal.returns
returns c = rw (left-full _ _ c.if-bytes-width.false) c.put_bytes-next.ensures
