-- `printer::bare::write_bare` meets its contract, an arm for each name.
-- Assumes nothing.
use Rattle.printer.proofs.bare.write_bare.Goals as goal

pub returns-in-Ter : goal.returns-in-Ter
returns-in-Ter c = rw c.in-Ter.is c.write_name.ensures

pub returns-in-Endmdl : goal.returns-in-Endmdl
returns-in-Endmdl c = rw c.in-Endmdl.is c.write_name-in-Endmdl.ensures

pub returns-in-End : goal.returns-in-End
returns-in-End c = rw c.in-End.is c.write_name-in-End.ensures
