-- `printer::rows::write_scale` meets its contract: it is `write_values` with its name.
-- Assumes nothing.
use Rattle.printer.proofs.rows.write_scale.Goals as goal

pub returns : goal.returns
returns c = c.write_values.ensures
