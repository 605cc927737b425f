-- `printer::atoms::draw_name` meets its contract: one field behind the other.
-- Assumes nothing.
use mathlib.Core.Path.{refl}
use Rattle.sheet.proofs.Laws.Draft.{drawn-from, drawn-one}
use Rattle.printer.proofs.atoms.draw_name.Goals as goal

pub returns : goal.returns
returns c =
    drawn-one _ _ _ _ _ c.draw_words.ensures
    (drawn-one _ _ _ _ _ c.draw_lent-named.ensures
    (drawn-one _ _ _ _ _ c.draw_figure-numbered.ensures
    (drawn-from _ _ refl)))
