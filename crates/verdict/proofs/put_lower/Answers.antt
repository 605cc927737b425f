-- `verdict::put_lower` meets its contract: row by row.
-- Assumes nothing.
use Rattle.page.proofs.Laws.Page.{put_then}
use Rattle.verdict.specs.Verdict.{lower_rows}
use Rattle.verdict.proofs.put_lower.Goals as goal

pub returns : goal.returns
unfolding lower_rows
returns c =
    put_then _ _ _ _ _ (put_then _ _ _ _ _ (put_then _ _ _ _ _ (put_then _ _ _ _ _ (put_then _ _ _ _ _ c.put_row-xform.ensures
    c.put_row-coord.ensures)
    c.put_row-ter.ensures)
    c.put_row-connect.ensures)
    c.put_row-seq.ensures)
    c.put_row.ensures
