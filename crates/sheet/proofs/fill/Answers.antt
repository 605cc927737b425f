-- `sheet::fill` meets its contract, by its test.
-- Assumes nothing.
use Rattle.sheet.proofs.Laws.Draft.{fill_none}
use Rattle.sheet.proofs.fill.Goals as goal

pub returns : goal.returns
returns c = fill_none _ _ _ c.if-next-column.false
