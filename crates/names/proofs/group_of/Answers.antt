-- `names::group_of` meets its contract: the field that is called there has it.
-- Assumes nothing.
use mathlib.Core.Path.{ap}
use Rattle.names.specs.Names.{Called, group_of}
use Rattle.names.proofs.group_of.Goals as goal

pub returns : goal.returns
unfolding group_of
returns c = ap (λ (f : Called). f.group) c.called_at.ensures
