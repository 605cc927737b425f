-- `repair::rows::put_rows` meets its contract.
-- Assumes nothing.
use Rattle.page.proofs.Laws.Page.{put_then}
use Rattle.repair.proofs.Laws.Rows.{cut-row, cut-none}
use Rattle.repair.proofs.rows.put_rows.Goals as goal

pub returns-in-Some : goal.returns-in-Some
returns-in-Some c = put_then _ _ _ _ _ c.put_changes-next.ensures (cut-row _ _ _ _ _ c.in-Some.ensures c.put_cut.ensures)

pub returns-in-None : goal.returns-in-None
returns-in-None c = cut-none _ _ _ _ _ c.in-None.ensures c.put_changes-next.ensures
