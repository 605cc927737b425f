-- `field::number_field::short` meets its contract.
-- Assumes nothing.
use mathlib.Core.Path.{refl, ◌∙◌}
use Rattle.field.proofs.number_field.short.Goals as goal

pub returns : goal.returns
returns c = c.new.ensures ∙ rw c.width.ensures refl
