-- `printer::bare::write_model` meets its contract: the parts are drawn one behind the other, and the line is ended.
-- Assumes nothing.
use mathlib.Core.Path.{refl}
use native.Mathlib.Omega.{arith}
use Rattle.sheet.proofs.Laws.Draft.{drawn-from, drawn-one}
use Rattle.sheet.proofs.Laws.Line.{drawn-writes}
use Rattle.printer.proofs.bare.write_model.Goals as goal

pub returns : goal.returns
returns c =
    let room = c.well_formed in
    drawn-writes _ refl _ _ _ _ _ _ (omega arith) refl c.end.ensures _ c.rule_off-ruled.ensures
    (drawn-one _ _ _ _ _ c.draw_figure-drawn.ensures
    (drawn-from _ _ c.begin-named.ensures))
