-- `layout::rows::put_column` meets its contract: two digits are put as they are.
-- Assumes nothing.
use Rattle.layout.proofs.Laws.Column.{column-put}
use Rattle.layout.proofs.rows.put_column.Goals as goal

pub returns : goal.returns
returns c =
    column-put _ _ _ _ c.if-n-lt10.false c.if-n-gt99.false
    c.put_byte-unit.ensures
    c.put_byte.ensures
