-- `printer::bare::write_name` meets its contract: the parts are drawn one behind the other, and the line is ended.
-- Assumes nothing.
use mathlib.Core.Path.{refl}
use native.Mathlib.Omega.{arith}
use Rattle.sheet.proofs.Laws.Draft.{drawn-from}
use Rattle.sheet.proofs.Laws.Line.{drawn-writes}
use borrow.Author.Tests.{le-leb}
use Rattle.printer.proofs.bare.write_name.Goals as goal

pub returns : goal.returns
returns c =
    let room = c.well_formed in
    drawn-writes _ (le-leb _ 80 c.requires) _ _ _ _ _ _ (omega arith) refl c.end.ensures _ c.rule_off-ruled.ensures
    (drawn-from _ _ c.begin-named.ensures)
