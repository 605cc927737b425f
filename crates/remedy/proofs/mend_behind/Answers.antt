-- `remedy::mend_behind` meets its contract.
-- Assumes nothing.
use mathlib.Core.Path.{refl}
use Rattle.remedy.proofs.Laws.Mend.{mends_behind}
use Rattle.remedy.proofs.mend_behind.Goals as goal

pub returns : goal.returns
returns c = mends_behind _ _ c.args.changes.now _ _ _ _ c.requires refl c.mend_line.ensures
