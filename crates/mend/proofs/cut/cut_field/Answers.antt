-- `mend::cut::cut_field` meets its contract: the table's other fields can't be cut.
-- Assumes nothing.
use mathlib.Core.Path.{◌∙◌}
use Rattle.mend.proofs.Laws.Cut.{cut-fields}
use Rattle.mend.proofs.cut.cut_field.Goals as goal

pub returns : goal.returns
returns c = c.first_cut.ensures ∙ cut-fields _
