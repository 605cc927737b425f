-- `packing::options_of` meets its contract: its tests are those of the bits, and the third gives the mode.
-- Assumes nothing.
use mathlib.Core.Path.{refl}
use Rattle.packing.specs.Options.{options_of}
use Rattle.packing.proofs.options_of.Goals as goal

pub returns : goal.returns
unfolding options_of
returns c = rw c.mode_of-mode.ensures refl
