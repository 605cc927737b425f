-- `printer::atoms::draw_mixed` meets its contract: one field behind the other.
-- Assumes nothing.
use mathlib.Core.Path.{refl}
use Rattle.sheet.proofs.Laws.Draft.{drawn-from, drawn-one}
use Rattle.printer.proofs.atoms.draw_mixed.Goals as goal

pub returns : goal.returns
returns c =
    drawn-one _ _ _ _ _ c.draw_figure.ensures
    (drawn-one _ _ _ _ _ c.draw_figure-second.ensures
    (drawn-one _ _ _ _ _ c.draw_figure-first.ensures
    (drawn-from _ _ refl)))
