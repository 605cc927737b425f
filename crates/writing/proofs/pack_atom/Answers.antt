-- `writing::pack_atom` meets its contract: the line is written, and the answer packed.
-- Assumes nothing.
use mir.Facts.{to_z-of_z}
use Rattle.writing.proofs.Laws.Write.{packs}
use Rattle.writing.proofs.pack_atom.Goals as goal

pub returns : goal.returns
returns c = packs _ _ _ _ _ (rw (to_z-of_z c.ranges.number, to_z-of_z c.ranges.charge) at c.write_atom.ensures) c.packed.ensures
