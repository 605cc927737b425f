-- `wording::atom_fields::put_real` meets its contract.
-- Assumes nothing.
use Rattle.wording.proofs.atom_fields.put_real.Goals as goal

pub returns : goal.returns
returns c = rw (c.head_word.ensures, c.bits_of.ensures) at c.put_two.ensures
