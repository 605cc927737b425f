-- `layout::fault::put_fault` meets its contract: the three numbers are those of the definition.
-- Assumes nothing.
use Rattle.layout.proofs.fault.put_fault.Goals as goal

pub returns : goal.returns
returns c = rw c.number.ensures at c.put_three.ensures
