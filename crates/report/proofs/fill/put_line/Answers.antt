-- `report::fill::put_line` meets its contract: the options and the table are those that the program reads by.
-- Assumes nothing.
use Rattle.report.proofs.fill.put_line.Goals as goal

pub returns : goal.returns
returns c = c.put_report.ensures
