-- `cell::put_text` meets its contract, by the length of the text.
-- Assumes nothing.
use Rattle.cell.proofs.Laws.Cell.{puts-fit, puts_not}
use Rattle.cell.proofs.put_text.Goals as goal

pub returns-then-width-bytes : goal.returns-then-width-bytes
returns-then-width-bytes c = puts_not c.args.bytes.now c.if-width-bytes.true c.put_none.ensures

pub returns : goal.returns
returns c = puts-fit _ _ _ _ _ c.if-width-bytes.false c.put_right.ensures
