-- `mend::put_mended` meets its contract: the line, and the blanks behind it.
-- Assumes nothing.
use Rattle.mend.proofs.Laws.Steps.{filled}
use Rattle.mend.proofs.put_mended.Goals as goal

pub returns : goal.returns
returns c = filled _ _ _ _ _ c.requires.0 c.put_line.ensures c.put_blanks.ensures
