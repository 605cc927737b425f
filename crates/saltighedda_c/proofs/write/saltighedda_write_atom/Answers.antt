-- `saltighedda_c::write::saltighedda_write_atom` meets its contract: the signed numbers come to the callee as they are.
-- Assumes nothing.
use mir.Facts.{to_z-of_z}
use Rattle.saltighedda_c.proofs.write.saltighedda_write_atom.Goals as goal

pub returns : goal.returns
returns c = let fits = c.ranges in rw (to_z-of_z fits.number, to_z-of_z fits.charge) at c.saltighedda_write_atom.ensures
