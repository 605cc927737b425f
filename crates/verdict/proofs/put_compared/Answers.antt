-- `verdict::put_compared` meets its contract: the rows, one behind the other.
-- Assumes nothing.
use Rattle.page.proofs.Laws.Page.{put_then}
use Rattle.verdict.specs.Verdict.{compared_rows}
use Rattle.verdict.proofs.put_compared.Goals as goal

pub returns : goal.returns
unfolding compared_rows
returns c =
    put_then _ _ _ _ _ (put_then _ _ _ _ _ c.put_upper-lower.ensures
    c.put_lower-last.ensures)
    c.put_last.ensures
