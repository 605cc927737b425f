-- `writer::write_crystal_record` meets its contract: the space group is shown by its view.
-- Assumes nothing.
use Rattle.writer.proofs.write_crystal_record.Goals as goal

pub returns : goal.returns
returns c = rw c.view.ensures at c.write_cell.ensures
