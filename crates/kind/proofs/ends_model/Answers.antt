-- `kind::ends_model` meets its contract: `==` compares the bytes one by one.
-- Assumes nothing.
use Rattle.line.specs.Bytes.{bytes}
use Rattle.kind.proofs.Laws.Key.{same-pointwise}
use Rattle.kind.proofs.ends_model.Goals as goal

pub returns-in-WwPdb : goal.returns-in-WwPdb
returns-in-WwPdb c =
    rw (c.in-WwPdb.is, same-pointwise c.args.line.now (bytes "ENDMDL")) (rw c.as_slice.ensures at c.eq.ensures)
