-- `cell::words::put_row` meets its contract, by the row's test.
-- Assumes nothing.
use Rattle.cell.proofs.Laws.Words.{row-fit, row_not}
use Rattle.cell.proofs.words.put_row.Goals as goal

pub returns-then-row-lt3 : goal.returns-then-row-lt3
returns-then-row-lt3 c = row-fit _ _ _ _ _ c.if-row-lt3.true c.put_text.ensures

pub returns : goal.returns
returns c = row_not _ _ _ _ _ c.if-row-lt3.false c.put_none.ensures
