-- `report::put_refused` meets its contract: the calls put the parts of `refused_rows` one behind the other.
-- Assumes nothing.
use Rattle.page.proofs.Laws.Page.{put_then}
use Rattle.report.specs.Report.{refused_rows}
use Rattle.report.proofs.put_refused.Goals as goal

pub returns : goal.returns
unfolding refused_rows
returns c = put_then _ _ _ _ _ c.put_head-why.ensures c.put_three.ensures
