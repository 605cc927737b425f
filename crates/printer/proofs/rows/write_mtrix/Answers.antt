-- `printer::rows::write_mtrix` meets its contract: the parts are drawn one behind the other, and the line is ended.
-- Assumes nothing.
use mathlib.Core.Path.{refl}
use native.Mathlib.Omega.{arith}
use Rattle.sheet.proofs.Laws.Draft.{drawn-from, drawn-more, drawn-one}
use Rattle.sheet.proofs.Laws.Line.{drawn-writes}
use Rattle.printer.proofs.rows.write_mtrix.Goals as goal

pub returns : goal.returns
returns c =
    let room = c.well_formed in
    drawn-writes _ refl _ _ _ _ _ _ (omega arith) refl c.end.ensures _ c.rule_off-ruled.ensures
    (drawn-one _ _ _ _ _ c.draw_figure-drawn.ensures
    (drawn-more _ _ _ _ _ c.draw_values-valued.ensures
    (drawn-one _ _ _ _ _ c.draw_figure-numbered.ensures
    (drawn-one _ _ _ _ _ c.draw_figure-rowed.ensures
    (drawn-from _ _ c.begin-named.ensures)))))
