-- `verdict::put_row` meets its contract: the calls put the parts of `row` one behind the other.
-- Assumes nothing.
use Rattle.page.proofs.Laws.Page.{put_then}
use Rattle.verdict.specs.Verdict.{row}
use Rattle.verdict.proofs.put_row.Goals as goal

pub returns : goal.returns
unfolding row
returns c =
    put_then _ _ _ _ _ (put_then _ _ _ _ _ (put_then _ _ _ _ _ (put_then _ _ _ _ _ (put_then _ _ _ _ _ (put_then _ _ _ _ _ c.put_bytes-colon.ensures
    c.put_bytes-first.ensures)
    c.put_unsigned-word.ensures)
    c.put_bytes-second.ensures)
    c.put_unsigned-other.ensures)
    c.put_bytes-last.ensures)
    c.put_same.ensures
