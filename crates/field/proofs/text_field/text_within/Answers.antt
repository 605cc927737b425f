-- `field::text_field::text_within` meets its contract.
-- Assumes nothing.
use mathlib.Core.Path.{refl, ◌∙◌}
use Rattle.field.specs.Text.{text_within}
use Rattle.field.proofs.text_field.text_within.Goals as goal

pub returns : goal.returns
unfolding text_within
returns c = c.shifted.ensures ∙ rw c.reached.ensures refl
