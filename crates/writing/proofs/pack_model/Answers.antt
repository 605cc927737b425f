-- `writing::pack_model` meets its contract: the line is written, and the answer packed.
-- Assumes nothing.
use Rattle.writing.proofs.Laws.Write.{packs}
use Rattle.writing.proofs.pack_model.Goals as goal

pub returns : goal.returns
returns c = packs _ _ _ _ _ c.write_model.ensures c.packed.ensures
