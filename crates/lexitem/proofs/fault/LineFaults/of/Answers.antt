-- `lexitem::fault::LineFaults::of` meets its contract.
-- Assumes nothing.
use mathlib.Core.Path.{refl}
use Rattle.lexitem.specs.Fault.{stamped_as}
use Rattle.lexitem.proofs.fault.LineFaults.of.Goals as goal

pub returns : goal.returns
unfolding stamped_as
returns c = refl
