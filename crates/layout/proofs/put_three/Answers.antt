-- `layout::put_three` meets its contract: the calls put the parts of `three_row` one behind the other.
-- Assumes nothing.
use Rattle.layout.specs.Label.{three_row}
use Rattle.page.proofs.Laws.Page.{put_then}
use Rattle.layout.proofs.put_three.Goals as goal

pub returns : goal.returns
unfolding three_row
returns c =
    put_then _ _ _ _ _ (put_then _ _ _ _ _ (put_then _ _ _ _ _ (put_then _ _ _ _ _ (put_then _ _ _ _ _ (put_then _ _ _ _ _ c.put_bytes-first.ensures
    c.put_unsigned-comma.ensures)
    c.put_byte-second.ensures)
    c.put_unsigned-other.ensures)
    c.put_byte-third.ensures)
    c.put_unsigned-end.ensures)
    c.put_byte.ensures
