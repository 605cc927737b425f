-- `line::fault::Faults::none` meets its contract.
-- Assumes nothing.
use mathlib.Core.Path.{refl}
use Rattle.line.specs.Faults.{no_faults}
use Rattle.line.proofs.fault.Faults.none.Goals as goal

pub returns : goal.returns
unfolding no_faults
returns c = rw c.new-blank.ensures refl
