-- `printer::atoms::draw_residue` meets its contract: one field behind the other.
-- Assumes nothing.
use mathlib.Core.Path.{refl}
use mir.Facts.{to_z-of_z}
use Rattle.sheet.proofs.Laws.Draft.{drawn-from, drawn-one}
use Rattle.printer.proofs.atoms.draw_residue.Goals as goal

pub returns : goal.returns
returns c =
    drawn-one _ _ _ _ _ c.draw_words.ensures
    (drawn-one _ _ _ _ _ (rw (to_z-of_z c.ranges.number) at c.draw_figure-numbered.ensures)
    (drawn-one _ _ _ _ _ c.draw_words-chained.ensures
    (drawn-one _ _ _ _ _ c.draw_words-named.ensures
    (drawn-from _ _ refl))))
