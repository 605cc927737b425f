-- `report::put_report` meets its contract: it goes by what listing the line answers.
-- Assumes nothing.
use native.Mathlib.Omega.{arith}
use Rattle.report.proofs.Laws.Given.{report-written, report-refused}
use Rattle.report.proofs.put_report.Goals as goal

pub returns-in-Err : goal.returns-in-Err
returns-in-Err c =
    report-refused _ _ _ _ _ _
    (c.in-Err.ensures)
    c.put_refused.ensures

pub returns-in-Ok : goal.returns-in-Ok
returns-in-Ok c =
    let room = c.well_formed in
    report-written _ _ _ _ (omega arith) (c.in-Ok.ensures)
