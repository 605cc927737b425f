-- `matrix::coordinate` meets its contract: its operations are those of the definition, in their order.
-- Assumes nothing.
use mathlib.Core.Path.{refl}
use Rattle.matrix.specs.Apply.{sum_of}
use Rattle.matrix.proofs.coordinate.Goals as goal

pub returns : goal.returns
unfolding sum_of
returns c = refl
