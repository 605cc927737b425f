-- `number::whole::read_unsigned` meets its contract: the calls are those of the definition.
-- Assumes nothing.
use Rattle.number.specs.Whole.{unsigned_of}
use Rattle.number.proofs.whole.read_unsigned.Goals as goal

pub returns : goal.returns
unfolding unsigned_of
returns c = simp (c.read_digits.ensures, c.after_plus.ensures, c.trim.ensures)
