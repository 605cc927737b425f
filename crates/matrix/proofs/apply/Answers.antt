-- `matrix::apply` meets its contract, coordinate by coordinate.
-- Assumes nothing.
use Rattle.matrix.proofs.apply.Goals as goal

pub returns : goal.returns
returns c = simp (c.new.ensures, c.coordinate-3.ensures, c.coordinate-2.ensures, c.coordinate.ensures)
