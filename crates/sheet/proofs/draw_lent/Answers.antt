-- `sheet::draw_lent` meets its contract: blanks, the field itself, and the pen behind it.
-- Assumes nothing.
use Rattle.sheet.proofs.Laws.Draft.{inked-step}
use Rattle.sheet.specs.Sheet.{◌holds◌}
use Rattle.sheet.proofs.draw_lent.Goals as goal

pub returns : goal.returns
returns c = inked-step _ _ _ _ _ (_ holds _) _ _ c.fill-start.ensures (rw c.width.ensures at c.put_lent-put.ensures) c.mark.ensures
