-- `lexitem::fault::LineFaults::none` meets its contract.
-- Assumes nothing.
use mathlib.Core.Path.{refl}
use Rattle.lexitem.proofs.fault.LineFaults.none.Goals as goal

pub returns : goal.returns
returns c = rw (c.of.ensures, c.none.ensures) refl
