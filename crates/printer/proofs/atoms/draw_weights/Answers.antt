-- `printer::atoms::draw_weights` meets its contract: one field behind the other.
-- Assumes nothing.
use mathlib.Core.Path.{refl}
use Rattle.sheet.proofs.Laws.Draft.{drawn-from, drawn-one}
use Rattle.printer.proofs.atoms.draw_weights.Goals as goal

pub returns : goal.returns
returns c =
    drawn-one _ _ _ _ _ (rw c.places_at-2.ensures at c.draw_figure.ensures)
    (drawn-one _ _ _ _ _ (rw c.places_at.ensures at c.draw_figure-first.ensures)
    (drawn-from _ _ refl))
