-- `layout::put_head` meets its contract: the calls put the parts of `head_rows` one behind the other.
-- Assumes nothing.
use Rattle.layout.specs.Label.{head_rows}
use Rattle.page.proofs.Laws.Page.{put_then}
use Rattle.layout.proofs.put_head.Goals as goal

pub returns : goal.returns
unfolding head_rows
returns c =
    put_then _ _ _ _ _ (put_then _ _ _ _ _ (put_then _ _ _ _ _ c.put_bytes-label.ensures
    c.put_bytes-feed.ensures)
    c.put_byte-line.ensures)
    c.put_number.ensures
