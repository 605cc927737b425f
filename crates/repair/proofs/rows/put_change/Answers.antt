-- `repair::rows::put_change` meets its contract.
-- Assumes nothing.
use Rattle.page.proofs.Laws.Page.{put_then}
use Rattle.repair.specs.Rows.{row_by, word_row}
use Rattle.repair.proofs.rows.put_change.Goals as goal

pub returns : goal.returns
unfolding word_row row_by
returns c =
    put_then _ _ _ _ _ c.put_columns-done.ensures
    c.put_done.ensures
