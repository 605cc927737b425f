-- `repair::rows::put_columns` meets its contract.
-- Assumes nothing.
use Rattle.page.proofs.Laws.Page.{put_then}
use Rattle.repair.specs.Rows.{columns_text}
use Rattle.repair.proofs.rows.put_columns.Goals as goal

pub returns : goal.returns
unfolding columns_text
returns c =
    put_then _ _ _ _ _ (put_then _ _ _ _ _ (put_then _ _ _ _ _ (put_then _ _ _ _ _ (put_then _ _ _ _ _ c.put_bytes-name.ensures
    c.put_unsigned-comma.ensures)
    c.put_bytes-start.ensures)
    c.put_unsigned-to.ensures)
    c.put_bytes-end.ensures)
    c.put_unsigned.ensures
