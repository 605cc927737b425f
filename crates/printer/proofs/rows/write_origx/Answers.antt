-- `printer::rows::write_origx` meets its contract: it is `write_values` with its name.
-- Assumes nothing.
use Rattle.printer.proofs.rows.write_origx.Goals as goal

pub returns : goal.returns
returns c = c.write_values.ensures
