-- `repair::rows::put_over` meets its contract.
-- Assumes nothing.
use Rattle.page.proofs.Laws.Page.{put_then}
use Rattle.repair.specs.Rows.{over_row}
use Rattle.repair.proofs.rows.put_over.Goals as goal

pub returns : goal.returns
unfolding over_row
returns c =
    put_then _ _ _ _ _ (put_then _ _ _ _ _ c.put_bytes-name.ensures
    c.put_unsigned-why.ensures)
    c.put_bytes.ensures
