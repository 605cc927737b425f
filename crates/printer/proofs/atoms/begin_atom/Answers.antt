-- `printer::atoms::begin_atom` meets its contract, by its test.
-- Assumes nothing.
use Rattle.printer.proofs.atoms.begin_atom.Goals as goal

pub returns-then-hetero : goal.returns-then-hetero
returns-then-hetero c = rw c.if-hetero.true c.begin.ensures

pub returns : goal.returns
returns c = rw c.if-hetero.false c.begin-2.ensures
