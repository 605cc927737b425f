-- `wording::put_fields` meets its contract, an arm for an atom and one for any record.
-- Assumes nothing.
use Rattle.wording.proofs.put_fields.Goals as goal

pub returns-in-Atom : goal.returns-in-Atom
returns-in-Atom c = rw c.in-Atom.is c.put_atom_fields.ensures
