-- `repair::rows::put_cut` meets its contract.
-- Assumes nothing.
use Rattle.page.proofs.Laws.Page.{put_then}
use Rattle.repair.specs.Rows.{cut_row}
use Rattle.repair.proofs.rows.put_cut.Goals as goal

pub returns : goal.returns
unfolding cut_row
returns c =
    put_then _ _ _ _ _ (put_then _ _ _ _ _ (put_then _ _ _ _ _ c.put_columns-why.ensures
    c.put_bytes-many.ensures)
    c.put_unsigned-unit.ensures)
    c.put_bytes.ensures
