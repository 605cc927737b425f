-- `verdict::put_upper` meets its contract: row by row.
-- Assumes nothing.
use Rattle.page.proofs.Laws.Page.{put_then}
use Rattle.verdict.specs.Verdict.{upper_rows}
use Rattle.verdict.proofs.put_upper.Goals as goal

pub returns : goal.returns
unfolding upper_rows
returns c =
    put_then _ _ _ _ _ (put_then _ _ _ _ _ (put_then _ _ _ _ _ (put_then _ _ _ _ _ (put_then _ _ _ _ _ c.put_row-empty.ensures
    c.put_row-het.ensures)
    c.put_row-helix.ensures)
    c.put_row-sheet.ensures)
    c.put_row-turn.ensures)
    c.put_row.ensures
