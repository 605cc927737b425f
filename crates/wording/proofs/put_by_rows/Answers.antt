-- `wording::put_by_rows` meets its contract: sixteen rows have the words of the fields.
-- Assumes nothing.
use Rattle.wording.proofs.Laws.Words.{fields-padded}
use Rattle.wording.proofs.put_by_rows.Goals as goal

pub returns : goal.returns
returns c = rw (c.rows_of-rows.ensures, fields-padded) at c.put_rows.ensures
