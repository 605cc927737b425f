-- `field::text_field::text_from` meets its contract.
-- Assumes nothing.
use mathlib.Core.Path.{refl, ◌∙◌}
use Rattle.field.specs.Text.{text_from}
use Rattle.field.proofs.text_field.text_from.Goals as goal

pub returns : goal.returns
unfolding text_from
returns c = c.shifted.ensures ∙ rw c.from_column.ensures refl
