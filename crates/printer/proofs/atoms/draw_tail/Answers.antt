-- `printer::atoms::draw_tail` meets its contract: one field behind the other.
-- Assumes nothing.
use mathlib.Core.Path.{refl}
use mir.Facts.{to_z-of_z}
use Rattle.sheet.proofs.Laws.Draft.{drawn-from, drawn-one}
use Rattle.printer.proofs.atoms.draw_tail.Goals as goal

pub returns : goal.returns
returns c =
    drawn-one _ _ _ _ _ (rw (to_z-of_z c.ranges.charge) at c.draw_figure.ensures)
    (drawn-one _ _ _ _ _ c.draw_words-named.ensures
    (drawn-one _ _ _ _ _ c.draw_words-segmented.ensures
    (drawn-from _ _ refl)))
