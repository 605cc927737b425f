-- `layout::put_number` meets its contract: the calls put the parts of `number_row` one behind the other.
-- Assumes nothing.
use Rattle.layout.specs.Label.{number_row}
use Rattle.page.proofs.Laws.Page.{put_then}
use Rattle.layout.proofs.put_number.Goals as goal

pub returns : goal.returns
unfolding number_row
returns c =
    put_then _ _ _ _ _ (put_then _ _ _ _ _ c.put_bytes-number.ensures
    c.put_unsigned-end.ensures)
    c.put_byte.ensures
